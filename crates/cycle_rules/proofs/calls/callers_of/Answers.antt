use Rattle.std.proofs.Common.{◌≡◌, ◌∙◌, add-one, Some, ap, sym}
use Rattle.std.specs.Prelude.{slice_get}
use Rattle.std.proofs.lemmas.Option.{slice_get-get_or}
use Rattle.cycle_rules.proofs.Calling.{noted_none, noted_more, noted_all}
use Rattle.cycle_rules.proofs.calls.callers_of.Goals as goal

pub loop-from-init : goal.loop-from-init
loop-from-init c = noted_none _ _ c.in_ok-callers.ensures

pub loop-from-preserved : goal.loop-from-preserved
loop-from-preserved c =
    let at : slice_get c.args.calls.now c.loop-from.from ≡ Some c.as_slice.result.now = slice_get-get_or c.args.calls.now c.loop-from.from c.index-calls-from.result c.loop-from-test.true ∙ ap Some (sym c.index-calls-from.is ∙ sym c.as_slice.ensures) in
    rw add-one (noted_more c.args.calls.now c.loop-from.callers.items c.note_all.new.callers.items c.loop-from.from c.as_slice.result.now at c.loop-from.invariant c.in_ok-note_all.ensures)

pub returns : goal.returns
returns c = noted_all _ _ _ c.loop-from-test.false c.loop-from.invariant
