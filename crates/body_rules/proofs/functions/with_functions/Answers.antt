use Rattle.std.proofs.Common.{ap, sym, take, ◌∙◌}
use Rattle.spl_tree.specs.declared.unit.Definition.TheVariants as D
use Rattle.body_rules.specs.steps.Signatures.{scope_in, with_definition}
use Rattle.written_types.specs.TypeScopes.{types_in}
use Rattle.body_rules.proofs.Signing.{no_function, scope_on}
use Rattle.body_rules.proofs.functions.with_functions.Goals.{in-Function+in_ok-add_function, in_default}
use Rattle.body_rules.proofs.functions.with_functions.Goals as goal

pub loop-definition-preserved : goal.loop-definition-preserved
loop-definition-preserved c =
    let types = types_in c.args.types.now in
    let before = take c.loop-definition.definition-index c.args.unit.now in
    let on = scope_on types c.args.unit.now c.loop-definition.definition-index c.definition-item.result c.loop-definition-test.true c.definition-item.is in
    elim c.match-definition.branch [
      | in-Function+in_ok-add_function w ↦
          w.scope-is ∙ w.in_ok-add_function.ensures
          ∙ ap (λ s. with_definition types s (D.Function w.in-Function.function)) c.loop-definition.invariant
          ∙ ap (with_definition types (scope_in types before)) (sym w.in-Function.is)
          ∙ on
      | in_default w ↦ w.scope-is ∙ c.loop-definition.invariant ∙ no_function types (scope_in types before) c.definition-item.result w.in_default.not-Function ∙ on
    ]
