use Rattle.std.proofs.Common.{◌≡◌, ◌∙◌, ◌++◌, ◌∷◌, [], add-one, Some, ap, sym}
use Rattle.std.specs.Prelude.{slice_get}
use Rattle.std.proofs.lemmas.Option.{slice_get-get_or}
use Rattle.language_model.specs.Recursion.{function_callers}
use Rattle.cycle_rules.proofs.Snoc.{functions_snoc}
use Rattle.cycle_rules.proofs.recursion.function_callers.Goals as goal

pub loop-definition-preserved : goal.loop-definition-preserved
loop-definition-preserved c =
    let d = c.definition-item.result in
    let n = c.loop-definition.definition-index in
    let e = c.as_slice-definition-items.ensures in
    let at : slice_get c.args.unit.now n ≡ Some d = ap (λ ds. slice_get ds n) (sym e) ∙ slice_get-get_or c.as_slice-definition-items.result.now n d c.loop-definition-test.true ∙ ap Some (sym c.definition-item.is) in
    rw add-one (c.in_ok-add_function.ensures ∙ ap (λ cs. cs ++ function_callers (d ∷ [])) c.loop-definition.invariant ∙ sym (functions_snoc n c.args.unit.now d at))
