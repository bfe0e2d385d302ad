use Rattle.std.proofs.Common.{subst}
use Rattle.expr_parser.specs.Lines as expressions
use Rattle.expr_parser.specs.Rules.{done, RunsTo}
use Rattle.spl_tree.specs.declared.expression.ExprKind.TheVariants as X
use Rattle.spl_tree.specs.declared.statement.StmtKind.TheVariants as Z
use Rattle.spl_tree.specs.declared.symbol.Symbol.TheVariants as S
use Rattle.spl_tree.specs.Trees.{placed}
use Rattle.statement_parser.specs.steps.GivesStatements as statements
use Rattle.statement_parser.specs.Lines.{expect, rule}
use Rattle.statement_parser.proofs.Readings.{expression_read, rule_on, rule_fails, expression_fails}
use Rattle.statement_parser.proofs.simple.called.Goals as goal

pub returns-in_err-arguments : goal.returns-in_err-arguments
returns-in_err-arguments c =
    rule_fails (statements.called_rule c.args.at c.args.name) _ c.args.ts.now c.args.ts.now _ c.in_err-arguments.field-0.0 c.from_residual.ensures.1 (λ o q. q)
    (expression_fails _ (expressions.Elements S.RightParen) (λ es. expect S.Semicolon (done (placed c.args.at (Z.Call (placed c.args.at (X.Call c.args.name es)))))) _
    c.in_err-arguments.ensures.rule)

pub returns : goal.returns
returns c =
    rule_on (statements.called_rule c.args.at c.args.name) (statements.ended_rule c.args.at (Z.Call c.in_ok-call.call)) c.args.ts.now c.in_ok-arguments.behind.now
    c.statement_ended.result
    (λ o q. expression_read c.in_ok-arguments.ensures.rule
    (subst (λ e. RunsTo rule (statements.ended_rule c.args.at (Z.Call e)) c.in_ok-arguments.behind.now o) c.in_ok-call.ensures q)) c.statement_ended.ensures
