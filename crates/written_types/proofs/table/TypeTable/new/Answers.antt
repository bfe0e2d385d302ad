use Rattle.std.proofs.Common.{sym, subst, ◌∙◌}
use Rattle.written_types.specs.steps.Circles.{TellsBack}
use Rattle.written_types.specs.Stepping.{LeadsWithin}
use Rattle.written_types.proofs.Circles.{rows_within, tells_circular}
use Rattle.written_types.proofs.table.TypeTable.new.Goals as goal

pub circles-requires : goal.circles-requires
circles-requires c =
    let definitions = c.in_ok-definitions.definitions in
    subst LeadsWithin (sym (c.as_slice.ensures.value ∙ c.in_ok-rows.ensures)) (rows_within definitions)

pub invariant_of-result : goal.invariant_of-result
invariant_of-result c =
    let definitions = c.in_ok-definitions.definitions in
    let flags = c.in_ok-circular.circular.items in
    tells_circular definitions flags (subst (λ rows. TellsBack rows flags) (c.as_slice.ensures.value ∙ c.in_ok-rows.ensures) c.in_ok-circular.ensures)
