use Rattle.std.proofs.Common.{Err, Ok, ap, length, sym, ◌∙◌}
use Rattle.spl_tree.specs.declared.body.Statement.{Statement}
use Rattle.spl_tree.specs.declared.body.Statement.TheVariants as T
use Rattle.language_model.specs.declared.scope.Scope.{Scope}
use Rattle.language_model.specs.BodyTyping.{first_value, variable}
use Rattle.body_rules.specs.steps.Leads.{shortened}
use Rattle.body_rules.proofs.Lengths.{one_more, whole}
use Rattle.body_rules.proofs.StatementLeads.{leads_fails}
use Rattle.body_rules.proofs.bodies.parts.declared.Goals as goal
use Rattle.language_model.proofs.FoundAnswers.{finds_by, goes, stops}

pub returns-in_err-kind-clause-code : goal.returns-in_err-kind-clause-code
returns-in_err-kind-clause-code c =
    let e = c.in_err-kind.field-0.0 in
    leads_fails _ _ e _ c.from_residual.ensures.1 (stops {B = Statement × Scope} _ _ e c.in_err-kind.ensures)

pub returns-in_err-kind-clause-longer : goal.returns-in_err-kind-clause-longer
returns-in_err-kind-clause-longer c = whole c.args.scope.now

pub returns-in_err-code-clause-code : goal.returns-in_err-code-clause-code
returns-in_err-code-clause-code c =
    let e = c.in_err-code.field-0.0 in
    leads_fails _ _ e _ c.from_residual-in_err-code.ensures.1
    (goes {B = Statement × Scope} _ _ c.in_ok-kind.kind (Err e) c.in_ok-kind.ensures
    (stops {B = Statement × Scope} _ _ e
    (finds_by _ _ (Err e) (λ i. first_value c.args.scope.now (sym c.get.ensures i) (sym c.as_ref.ensures.value i)) c.in_err-code.ensures)))

pub returns-in_err-code-clause-longer : goal.returns-in_err-code-clause-longer
returns-in_err-code-clause-longer c = whole c.args.scope.now

pub returns-clause-code : goal.returns-clause-code
returns-clause-code c =
    let r = Ok (T.Declare c.into_inner.result, c.add_variable.new.scope) in
    goes {B = Statement × Scope} _ _ c.in_ok-kind.kind r c.in_ok-kind.ensures
    (goes {B = Statement × Scope} _ _ c.in_ok-code.code r
    ((λ i. first_value c.args.scope.now (sym c.get.ensures i) (sym c.as_ref.ensures.value i)) ∙ c.in_ok-code.ensures)
    (λ i. Ok (T.Declare (sym c.into_inner.ensures i), sym c.in_ok-add_variable.ensures.ok i)))

pub returns-clause-longer : goal.returns-clause-longer
returns-clause-longer c =
    ap (shortened (length c.args.scope.now.vars)) c.in_ok-add_variable.ensures.ok
    ∙ one_more c.args.scope.now (variable c.args.declaration.now.mutable c.args.declaration.now.name.what c.in_ok-kind.kind)
