use Rattle.statement_parser.specs.Lines as lines
use Rattle.statement_parser.specs.steps.Parts as part_rules
use Rattle.statement_parser.proofs.Readings.{passed, rule_on, rule_fails, pass_fails}
use Rattle.statement_parser.proofs.sequence.expression_between.Goals as goal

pub returns-in_err-behind : goal.returns-in_err-behind
returns-in_err-behind c =
    rule_fails (part_rules.expression_between c.args.opening c.args.close) _ c.args.ts.now c.args.ts.now _ c.in_err-behind.field-0.0 c.from_residual.ensures.1 (λ o q. q)
    (pass_fails _ c.args.opening (lines.expression_before c.args.close) _ c.in_err-behind.ensures)

pub returns : goal.returns
returns c =
    rule_on (part_rules.expression_between c.args.opening c.args.close) (lines.expression_before c.args.close) c.args.ts.now c.in_ok-behind.behind.now c.expression_before.result
    (λ o q. passed c.args.opening c.in_ok-behind.ensures q) c.expression_before.ensures
