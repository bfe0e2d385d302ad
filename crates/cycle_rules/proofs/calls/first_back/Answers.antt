use Rattle.std.proofs.Common.{ℕ, add-one, get_or}
use Rattle.std.proofs.lemmas.Option.{slice_get-get_or}
use Rattle.spl_tree.specs.declared.expression.Placed.{Placed}
use Rattle.cycle_rules.proofs.Leading.{none_more, none_all}
use Rattle.cycle_rules.proofs.calls.first_back.Goals as goal

pub loop-call-preserved : goal.loop-call-preserved
loop-call-preserved c =
    let none : Placed ℕ = record { at = 0; what = 0 } in
    rw add-one (none_more c.args.leading.now.places.items c.args.place c.args.calls.now c.loop-call.call-index (get_or c.args.calls.now c.loop-call.call-index none)
    (slice_get-get_or c.args.calls.now c.loop-call.call-index none c.loop-call-test.true) c.loop-call.invariant c.if-leads_back.ensures)

pub returns : goal.returns
returns c = none_all c.args.leading.now.places.items c.args.place c.args.calls.now c.loop-call.call-index c.loop-call-test.false c.loop-call.invariant
