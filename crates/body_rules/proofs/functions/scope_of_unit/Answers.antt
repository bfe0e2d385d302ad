use Rattle.std.specs.Prelude.{IfOk}
use Rattle.std.proofs.Common.{◌≡◌, ◌∙◌, ap, subst}
use Rattle.language_model.specs.TypeNames.{types_of, unit_types}
use Rattle.language_model.specs.Typing.{unknown}
use Rattle.written_types.specs.TypeScopes.{types_in}
use Rattle.body_rules.proofs.Signing.{scope_is}
use Rattle.body_rules.proofs.functions.scope_of_unit.Goals as goal

pub returns : goal.returns
returns c =
    let unit = c.args.unit.now in
    let meant : types_in c.of_unit-types.result ≡ unit_types unit = c.of_unit-types.ensures ∙ ap (λ ds. types_of ds unknown) c.in_ok-table.ensures in
    subst (λ s. IfOk c.with_functions.result (λ scope. scope ≡ s)) (scope_is unit c.as_slice.result.now (types_in c.of_unit-types.result) meant c.as_slice.ensures) c.with_functions.ensures
