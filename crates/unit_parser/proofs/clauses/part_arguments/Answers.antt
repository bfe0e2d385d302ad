use Rattle.statement_parser.proofs.Readings.{finished, reads, taken, skipped, expression_read, fails, expression_fails}
use Rattle.statement_parser.specs.Lines as lines
use Rattle.unit_parser.proofs.clauses.part_arguments.Goals as goal

pub returns-in_default : goal.returns-in_default
unfolding lines.rule
returns-in_default c = reads (skipped c.in_default.ensures finished)

pub returns-in_err-arguments : goal.returns-in_err-arguments
unfolding lines.rule
returns-in_err-arguments c =
    fails lines.PartArguments c.args.ts.now c.in-Some.behind.now _ c.from_residual.result c.in_err-arguments.field-0.0 c.from_residual.ensures.1
    (λ o q. reads (taken c.in-Some.ensures q))
    (expression_fails _ _ _ _ c.in_err-arguments.ensures.rule)

pub returns : goal.returns
unfolding lines.rule
returns c = reads (taken c.in-Some.ensures (expression_read c.in_ok-arguments.ensures.rule finished))
