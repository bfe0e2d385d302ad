use Rattle.std.specs.Prelude.{IfOk}
use Rattle.std.proofs.Common.{◌≡◌, ◌∙◌, ap, subst, sym}
use Rattle.language_model.specs.FunctionTyping.{unit_scope}
use Rattle.language_model.specs.TypeNames.{types_of, unit_types}
use Rattle.language_model.specs.Typing.{unknown}
use Rattle.written_types.specs.TypeScopes.{types_in}
use Rattle.body_rules.proofs.Signing.{scope_is}
use Rattle.body_rules.proofs.functions.functions_of.Goals as goal

pub functions_in-requires : goal.functions_in-requires
functions_in-requires c =
    let unit = c.args.unit.now in
    let meant : types_in c.of_unit-types.result ≡ unit_types unit = c.of_unit-types.ensures ∙ ap (λ ds. types_of ds unknown) c.in_ok-table.ensures in
    record {
      types = meant ∙ ap unit_types (sym c.as_slice-2.ensures);
      scope = subst (λ s. IfOk c.with_functions-scope.result (λ scope. scope ≡ s))
          (scope_is unit c.as_slice.result.now (types_in c.of_unit-types.result) meant c.as_slice.ensures ∙ ap unit_scope (sym c.as_slice-2.ensures))
          c.with_functions-scope.ensures;
    }
