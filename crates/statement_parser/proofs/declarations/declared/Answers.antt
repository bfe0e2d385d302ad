use Rattle.expr_parser.specs.Rules.{call, done}
use Rattle.statement_parser.proofs.Readings.{reads, name_passed, fails, name_fails}
use Rattle.statement_parser.proofs.TypeReadings.{goes, tail}
use Rattle.statement_parser.specs.Lines.{Declared, Valued, rule}
use Rattle.statement_parser.proofs.declarations.declared.Goals as goal

pub returns-in_err-name : goal.returns-in_err-name
unfolding rule
returns-in_err-name c =
    fails (Declared c.args.mutable c.args.kind) c.args.ts.now c.args.ts.now _ c.from_residual.result c.in_err-name.field-0.0 c.from_residual.ensures.1 (λ o q. reads q)
    (name_fails _ (λ n. call (Valued c.args.mutable c.args.kind n) done) _ c.in_err-name.ensures)

pub returns : goal.returns
unfolding rule
returns c =
    goes (Declared c.args.mutable c.args.kind) c.args.ts.now c.in_ok-name.behind.now (call (Valued c.args.mutable c.args.kind c.in_ok-name.name) done) c.valued.result
    (λ o q. reads (name_passed (λ n. call (Valued c.args.mutable c.args.kind n) done) c.in_ok-name.ensures q))
    (tail (Valued c.args.mutable c.args.kind c.in_ok-name.name) c.in_ok-name.behind.now c.valued.result c.valued.ensures)
