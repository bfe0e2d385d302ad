use Rattle.expr_parser.specs.Lines as expressions
use Rattle.expr_parser.specs.Rules.{done}
use Rattle.statement_parser.specs.Lines as lines
use Rattle.statement_parser.specs.Lines.{expect}
use Rattle.statement_parser.proofs.Readings.{expression_read, rule_on, rule_fails, expression_fails}
use Rattle.statement_parser.proofs.sequence.expression_before.Goals as goal

pub returns-in_err-value : goal.returns-in_err-value
returns-in_err-value c =
    rule_fails (lines.expression_before c.args.symbol) _ c.args.ts.now c.args.ts.now _ c.in_err-value.field-0.0 c.from_residual.ensures.1 (λ o q. q)
    (expression_fails _ expressions.Whole (λ e. expect c.args.symbol (done e)) _ c.in_err-value.ensures.rule)

pub returns : goal.returns
returns c =
    rule_on (lines.expression_before c.args.symbol) (expect c.args.symbol (done c.in_ok-value.value)) c.args.ts.now c.in_ok-value.behind.now c.closed.result
    (λ o q. expression_read c.in_ok-value.ensures.rule q) c.closed.ensures
