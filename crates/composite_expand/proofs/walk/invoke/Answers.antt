use Rattle.std.proofs.Common.{◌∙◌, refl, sym, subst}
use Rattle.language_model.specs.Scopes.{at_place}
use Rattle.composite_expand.specs.steps.Walks.{Refuses}
use Rattle.composite_expand.proofs.Steps.{ports_refused, marked}
use Rattle.composite_expand.proofs.walk.invoke.Goals as goal

pub returns-then-not-branch : goal.returns-then-not-branch
returns-then-not-branch c = λ unit main none is known target.
    subst (Refuses unit main) (sym c.in_ok-misfit.ensures)
    (ports_refused unit main c.args.walk.now c.args.top c.args.scope.now.composite.now c.args.invocation.now is (at_place c.args.place c.args.head.now.composite.now) known target
    (sym c.in_ok-fits_head.ensures ∙ c.if-not-branch.true))

pub returns-then-is_idle : goal.returns-then-is_idle
returns-then-is_idle c = λ unit main none is known target.
    c.in_ok-pass_over.ensures unit main c.args.scope.now.composite.now c.args.invocation.now (at_place c.args.place c.args.head.now.composite.now) is known target
    (sym c.in_ok-fits_head.ensures ∙ c.if-not-branch.false)
    (marked unit main c.args.walk.now c.args.top c.args.scope.now.composite.now c.args.invocation.now is (at_place c.args.place c.args.head.now.composite.now) target (c.if-is_idle.ensures.0 refl))

pub returns : goal.returns
returns c = λ unit main none is known target.
    c.in_ok-open.ensures unit main (at_place c.args.place c.args.head.now.composite.now) none is known target (sym c.in_ok-fits_head.ensures ∙ c.if-not-branch.false) refl
