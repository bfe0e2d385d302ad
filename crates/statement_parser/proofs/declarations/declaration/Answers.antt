use Rattle.std.proofs.Common.{true, false}
use Rattle.expr_parser.specs.Rules.{call, done}
use Rattle.statement_parser.proofs.Readings.{reads, taken, skipped, line_read, fails, line_fails}
use Rattle.statement_parser.proofs.TypeReadings.{goes, tail}
use Rattle.statement_parser.specs.Lines.{TypeExpression, Declare, Declared, rule}
use Rattle.statement_parser.proofs.declarations.declaration.Goals as goal

pub returns-in_err-kind-in-Some : goal.returns-in_err-kind-in-Some
unfolding rule
returns-in_err-kind-in-Some c =
    fails Declare c.args.ts.now c.in-Some.behind.now _ c.from_residual.result c.in_err-kind-in-Some.field-0.0 c.from_residual.ensures.1 (λ o q. reads (taken c.in-Some.ensures q))
    (line_fails _ TypeExpression (λ k. call (Declared true k) done) _ c.in_err-kind-in-Some.ensures)

pub returns-in_err-kind-in-None : goal.returns-in_err-kind-in-None
unfolding rule
returns-in_err-kind-in-None c =
    fails Declare c.args.ts.now c.args.ts.now _ c.from_residual-in_err-kind-in-None.result c.in_err-kind-in-None.field-0.0 c.from_residual-in_err-kind-in-None.ensures.1
    (λ o q. reads (skipped c.in-None.ensures q))
    (line_fails _ TypeExpression (λ k. call (Declared false k) done) _ c.in_err-kind-in-None.ensures)

pub returns-in_ok-kind-in-Some : goal.returns-in_ok-kind-in-Some
unfolding rule
returns-in_ok-kind-in-Some c =
    goes Declare c.args.ts.now c.in_ok-kind-in-Some.behind.now (call (Declared true c.in_ok-kind-in-Some.kind) done) c.declared.result
    (λ o q. reads (taken c.in-Some.ensures (line_read c.in_ok-kind-in-Some.ensures q)))
    (tail (Declared true c.in_ok-kind-in-Some.kind) c.in_ok-kind-in-Some.behind.now c.declared.result c.declared.ensures)

pub returns-in_ok-kind-in-None : goal.returns-in_ok-kind-in-None
unfolding rule
returns-in_ok-kind-in-None c =
    goes Declare c.args.ts.now c.in_ok-kind-in-None.behind.now (call (Declared false c.in_ok-kind-in-None.kind) done) c.declared-in-None.result
    (λ o q. reads (skipped c.in-None.ensures (line_read c.in_ok-kind-in-None.ensures q)))
    (tail (Declared false c.in_ok-kind-in-None.kind) c.in_ok-kind-in-None.behind.now c.declared-in-None.result c.declared-in-None.ensures)
