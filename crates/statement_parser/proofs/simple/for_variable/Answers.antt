use Rattle.spl_tree.specs.declared.symbol.Symbol.TheVariants as S
use Rattle.statement_parser.specs.steps.GivesStatements as statements
use Rattle.statement_parser.specs.steps.Parts.{attribute_rule}
use Rattle.statement_parser.proofs.Readings.{passed, rule_on, rule_fails, pass_fails}
use Rattle.statement_parser.proofs.simple.for_variable.Goals as goal

pub returns-in_err-behind : goal.returns-in_err-behind
returns-in_err-behind c =
    rule_fails statements.for_variable _ c.args.ts.now c.args.ts.now _ c.in_err-behind.field-0.0 c.from_residual.ensures.1 (λ o q. q)
    (pass_fails _ S.LeftParen attribute_rule _ c.in_err-behind.ensures)

pub returns : goal.returns
returns c =
    rule_on statements.for_variable attribute_rule c.args.ts.now c.in_ok-behind.behind.now c.read_attribute.result
    (λ o q. passed S.LeftParen c.in_ok-behind.ensures q) c.read_attribute.ensures
