use Rattle.spl_tree.specs.declared.keyword.Keyword.TheVariants as K
use Rattle.spl_tree.specs.declared.symbol.Symbol.TheVariants as S
use Rattle.statement_parser.specs.steps.GivesStatements as statements
use Rattle.statement_parser.specs.Lines.{expression_before}
use Rattle.statement_parser.proofs.Readings.{word_passed, rule_on, rule_fails, word_fails}
use Rattle.statement_parser.proofs.simple.gone_over.Goals as goal

pub returns-in_err-behind : goal.returns-in_err-behind
returns-in_err-behind c =
    rule_fails statements.gone_over _ c.args.ts.now c.args.ts.now _ c.in_err-behind.field-0.0 c.from_residual.ensures.1 (λ o q. q)
    (word_fails _ K.In (expression_before S.RightParen) _ c.in_err-behind.ensures)

pub returns : goal.returns
returns c =
    rule_on statements.gone_over (expression_before S.RightParen) c.args.ts.now c.in_ok-behind.behind.now c.expression_before.result
    (λ o q. word_passed K.In c.in_ok-behind.ensures q) c.expression_before.ensures
