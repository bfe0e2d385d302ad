use Rattle.std.proofs.Common.{ℕ, [], Option}
use Rattle.expr_parser.specs.Lines as expressions
use Rattle.expr_parser.specs.Rules.{done, stop, look}
use Rattle.expr_parser.proofs.RuleLaws.{runs_stop}
use Rattle.spl_tree.specs.declared.expression.BinaryOperator.{BinaryOperator}
use Rattle.spl_tree.specs.declared.expression.ExprKind.TheVariants as X
use Rattle.spl_tree.specs.declared.statement.StmtKind.TheVariants as Z
use Rattle.spl_tree.specs.declared.symbol.Symbol.TheVariants as S
use Rattle.spl_tree.specs.Trees.{Expr, placed, Stmt}
use Rattle.statement_parser.specs.steps.GivesStatements as statements
use Rattle.statement_parser.specs.Lines.{R, expression_before, is_assignment, assignment_at}
use Rattle.statement_parser.proofs.Readings.{skipped, taken_as, expression_read, rule_on, rule_fails, expression_fails}
use Rattle.statement_parser.proofs.StatementReadings.{behind, part_read, part_fails}
use Rattle.statement_parser.proofs.simple.assigned.Goals as goal

-- the rule after the value, and after the operator
abbrev made : ℕ → Expr → Option BinaryOperator → Expr → R Stmt
made at p op e = done (placed at (Z.Assign p op e))

abbrev valued : ℕ → Expr → Option BinaryOperator → R Stmt
valued at p op = behind (expression_before S.Semicolon) (made at p op)

pub returns-in_err-place : goal.returns-in_err-place
returns-in_err-place c =
    rule_fails (statements.assigned_rule c.args.at c.args.name) _ c.args.ts.now c.args.ts.now _ c.in_err-place.field-0.0 c.from_residual.ensures.1 (λ o q. q)
    (expression_fails _ (expressions.Steps (placed c.args.at (X.Name c.args.name)) []) (λ p. look is_assignment (λ t. valued c.args.at p (assignment_at t)) stop) _ c.in_err-place.ensures)

pub returns-in_default : goal.returns-in_default
returns-in_default c = expression_read c.in_ok-place.ensures (skipped c.in_default.ensures runs_stop)

pub returns-in_err-value : goal.returns-in_err-value
returns-in_err-value c =
    rule_fails (statements.assigned_rule c.args.at c.args.name) _ c.args.ts.now c.in-Some.behind.now _ c.in_err-value.field-0.0 c.from_residual-in_err-value.ensures.1
    (λ o q. expression_read c.in_ok-place.ensures (taken_as is_assignment assignment_at (valued c.args.at c.in_ok-place.place) c.in-Some.ensures q))
    (part_fails (expression_before S.Semicolon) (made c.args.at c.in_ok-place.place c.in-Some.operator) _ _ c.in_err-value.ensures)

pub returns : goal.returns
returns c =
    rule_on (statements.assigned_rule c.args.at c.args.name) (made c.args.at c.in_ok-place.place c.in-Some.operator c.in_ok-value.value) c.args.ts.now c.in_ok-value.behind.now
    c.statement_made.result
    (λ o q. expression_read c.in_ok-place.ensures (taken_as is_assignment assignment_at (valued c.args.at c.in_ok-place.place) c.in-Some.ensures
    (part_read (expression_before S.Semicolon) (made c.args.at c.in_ok-place.place c.in-Some.operator) c.in_ok-value.ensures q))) c.statement_made.ensures
