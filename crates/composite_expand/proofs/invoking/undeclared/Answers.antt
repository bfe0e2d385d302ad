use Rattle.std.specs.Prelude.{◌≡◌, ◌++◌, IfOk}
use Rattle.std.proofs.Common.{subst}
use Rattle.language_model.specs.Mentions.{clause_mentions}
use Rattle.composite_expand.specs.steps.Invocations.{named, streams_read, undeclared_operator, undeclared_parameters, unreadable}
use Rattle.composite_expand.proofs.Firsts.{first_behind, first_in_front}
use Rattle.composite_expand.proofs.invoking.undeclared.Goals as goal

pub returns-in-Some : goal.returns-in-Some
returns-in-Some c =
    let i = c.args.invocation.now in
    let composite = c.args.scope.now.composite.now in
    first_in_front (undeclared_operator c.args.composites.now.unit.now i ++ unreadable composite (streams_read i))
    (undeclared_parameters composite (clause_mentions i.clauses)) c.in-Some.name.now c.in-Some.ensures

pub returns-in-None : goal.returns-in-None
returns-in-None c =
    let i = c.args.invocation.now in
    let composite = c.args.scope.now.composite.now in
    subst (λ o. IfOk c.undeclared_parameter.result (λ found. named found ≡ o))
    (first_behind (undeclared_operator c.args.composites.now.unit.now i ++ unreadable composite (streams_read i))
    (undeclared_parameters composite (clause_mentions i.clauses)) c.in-None.ensures)
    c.undeclared_parameter.ensures
