use Rattle.std.proofs.Common.{ℕ, add-one, get_or}
use Rattle.std.proofs.lemmas.Option.{slice_get-get_or}
use Rattle.spl_tree.specs.declared.expression.Placed.{Placed}
use Rattle.cycle_rules.proofs.Noting.{notes_more}
use Rattle.cycle_rules.proofs.calls.note_all.Goals as goal

pub loop-call-preserved : goal.loop-call-preserved
loop-call-preserved c =
    let none : Placed ℕ = record { at = 0; what = 0 } in
    rw add-one (notes_more _ c.loop-call.callers.items _ c.loop-call.call-index c.args.calls.now (get_or c.args.calls.now c.loop-call.call-index none) c.args.from
    (slice_get-get_or c.args.calls.now c.loop-call.call-index none c.loop-call-test.true) c.loop-call.invariant c.in_ok-note.ensures)
