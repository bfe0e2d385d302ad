use Rattle.std.proofs.Common.{ap, sym, ◌∙◌}
use Rattle.language_model.specs.TypeNames.{shape_meant}
use Rattle.language_model.specs.Typing.{unknown}
use Rattle.written_types.specs.steps.Circles.{told}
use Rattle.written_types.specs.TypeScopes.{outside_types}
use Rattle.written_types.proofs.Meanings.{has_none, has_shape}
use Rattle.written_types.proofs.finding.meaning.Goals as goal

pub returns-else-circular : goal.returns-else-circular
returns-else-circular c = λ at.
    has_shape c.args.scope.now.own.now (outside_types c.args.scope.now.outside) c.args.name.now at c.in-Some.definition.now c.in-Some.circular c.if-circular.false
    (ap told (sym c.in-Some.is) ∙ c.definition.ensures)

pub returns : goal.returns
returns c = λ at.
    has_none c.args.scope.now.own.now (outside_types c.args.scope.now.outside) c.args.name.now at (ap told (sym c.in_default.is) ∙ c.definition.ensures)
    ∙ ap (λ o. outside_types o at c.args.name.now) c.in_ok-own.was
    ∙ has_shape c.in_ok-own.own.now unknown c.args.name.now at c.in_ok-definition.definition.now c.in_ok-definition.circular c.if-circular-2.false
    (ap told (sym c.in_ok-definition.was) ∙ c.definition-2.ensures)
    ∙ ap (λ types. shape_meant types c.in_ok-definition.definition.now.shape) (sym c.of_unit-unit.ensures)
