use Rattle.std.proofs.Common.{[], ◌∷◌, ◌++◌, subst}
use Rattle.expr_parser.specs.Rules.{call, done, Took, Reads}
use Rattle.statement_parser.proofs.Readings.{finished, reads, taken, skipped, line_read, fails, line_fails}
use Rattle.statement_parser.proofs.Sequences.{pushed, pushed_fails}
use Rattle.unit_parser.proofs.DeclarationReadings.{declaration_shrinks}
use Rattle.statement_parser.specs.Lines.{Declare, Declarations, rule}
use Rattle.unit_parser.proofs.declarations.declarations.Goals as goal
use Rattle.expr_parser.proofs.RuleLaws.{runs_last}

pub returns-in-Some : goal.returns-in-Some
unfolding rule
returns-in-Some c =
    c.declarations.invariant (Took c.declarations.all c.in-Some.behind.now) (reads (taken c.in-Some.ensures finished))

pub returns-in_err-behind : goal.returns-in_err-behind
unfolding rule
returns-in_err-behind c =
    fails (Declarations []) c.args.ts.now c.declarations.at.now _ c.from_residual.result c.in_err-behind.field-0.0 c.from_residual.ensures.1
    (λ o q. c.declarations.invariant o (reads (skipped c.in_default.ensures q)))
    (line_fails _ Declare (λ d. call (Declarations (c.declarations.all ++ d ∷ [])) done) _
    (pushed_fails (Reads rule Declare c.declarations.at.now) _ _ c.declaration.result _ c.declaration.ensures c.in_err-behind.ensures))

pub declarations-smaller : goal.declarations-smaller
declarations-smaller c =
    let next = pushed (Reads rule Declare c.declarations.at.now) _ _ c.declaration.result _ c.declaration.ensures c.in_ok-behind.ensures in
    declaration_shrinks next.said

pub declarations-preserved : goal.declarations-preserved
unfolding rule
declarations-preserved c =
    let next = pushed (Reads rule Declare c.declarations.at.now) _ _ c.declaration.result _ c.declaration.ensures c.in_ok-behind.ensures in
    λ o r. c.declarations.invariant o (reads (skipped c.in_default.ensures (line_read next.said
    (runs_last {x = Declarations (c.declarations.all ++ next.one ∷ [])} (subst (λ ds. Reads rule (Declarations ds) c.in_ok-behind.behind.now o) next.is r)))))
