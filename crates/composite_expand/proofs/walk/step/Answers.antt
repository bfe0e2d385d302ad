use Rattle.std.proofs.Common.{◌∙◌, sym, ap, subst}
use Rattle.spl_tree.specs.Trees.{placed}
use Rattle.language_model.specs.Invoking.{target_of}
use Rattle.composite_expand.specs.steps.Invocations.{named}
use Rattle.composite_expand.specs.steps.Walks.{Refuses}
use Rattle.composite_expand.proofs.Steps.{at_end, at_invocation, number_within, undeclared_refused}
use Rattle.composite_expand.proofs.walk.step.Goals as goal

pub returns-in_default-get : goal.returns-in_default-get
returns-in_default-get c = λ main none on.
    c.close.ensures c.args.composites.now.unit.now main c.in-Some.scope.now.composite.now
    (at_end c.args.composites.now.unit.now main c.args.walk.now c.args.top on c.in-Some.scope.now.composite.now (sym c.in-Some.ensures) (sym c.in_default-get.ensures.value))

pub returns-in-Some-2 : goal.returns-in-Some-2
returns-in-Some-2 c = λ main none on.
    subst (Refuses c.args.composites.now.unit.now main) (sym c.in_ok-unknown.ensures)
    (undeclared_refused c.args.composites.now.unit.now main c.args.walk.now c.args.top c.in-Some.scope.now.composite.now c.in-Some-get.invocation.now
    (at_invocation c.args.composites.now.unit.now main c.args.walk.now c.args.top on c.in-Some.scope.now.composite.now c.in-Some-get.invocation.now (sym c.in-Some.ensures)
    (sym c.in-Some-get.ensures.value)) (placed c.in-Some-2.name.at c.in-Some-2.name.what.now) (sym c.in_ok-name.ensures ∙ ap named c.in-Some-2.is))

pub add-requires-clause-number : goal.add-requires-clause-number
add-requires-clause-number c = number_within c.args.composites.now.unit.now c.requires.0 c.args.walk.now c.args.top c.requires.1

pub invoke-requires : goal.invoke-requires
invoke-requires c = number_within c.args.composites.now.unit.now c.requires.0 c.args.walk.now c.args.top c.requires.1

pub returns-in-Operator : goal.returns-in-Operator
returns-in-Operator c = λ main none on.
    c.add.ensures main
    (at_invocation c.args.composites.now.unit.now main c.args.walk.now c.args.top on c.in-Some.scope.now.composite.now c.in-Some-get.invocation.now (sym c.in-Some.ensures)
    (sym c.in-Some-get.ensures.value)) (sym c.in_ok-name.ensures ∙ ap named c.in_default-2.is)
    (ap (target_of c.args.composites.now.unit.now) (sym c.as_slice.ensures) ∙ sym c.in-Operator.ensures)

pub returns-in-Body : goal.returns-in-Body
returns-in-Body c = λ main none on.
    c.invoke.ensures c.args.composites.now.unit.now main none
    (at_invocation c.args.composites.now.unit.now main c.args.walk.now c.args.top on c.in-Some.scope.now.composite.now c.in-Some-get.invocation.now (sym c.in-Some.ensures)
    (sym c.in-Some-get.ensures.value)) (sym c.in_ok-name.ensures ∙ ap named c.in_default-2.is)
    (ap (target_of c.args.composites.now.unit.now) (sym c.as_slice.ensures) ∙ sym c.in-Body.ensures)
