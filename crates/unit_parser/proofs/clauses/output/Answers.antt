use Rattle.std.proofs.Common.{[]}
use Rattle.statement_parser.specs.Lines as lines
use Rattle.statement_parser.proofs.Readings.{finished, reads, taken, skipped, line_read, fails, line_fails}
use Rattle.unit_parser.proofs.clauses.output.Goals as goal

pub returns-in_default : goal.returns-in_default
unfolding lines.rule
returns-in_default c = reads (skipped c.in_default.ensures finished)

pub returns-in_err-what : goal.returns-in_err-what
unfolding lines.rule
returns-in_err-what c =
    fails lines.OutputClause c.args.ts.now c.in-Some.behind.now _ c.from_residual.result c.in_err-what.field-0.0 c.from_residual.ensures.1
    (λ o q. reads (taken c.in-Some.ensures q))
    (line_fails _ (lines.Outputs []) _ _ c.in_err-what.ensures)

pub returns : goal.returns
unfolding lines.rule
returns c = reads (taken c.in-Some.ensures (line_read c.in_ok-what.ensures finished))
