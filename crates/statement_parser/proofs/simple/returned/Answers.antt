use Rattle.std.specs.Prelude.{ℕ, Bool, true, Some, None}
use Rattle.expr_parser.specs.Rules.{done}
use Rattle.spl_tree.specs.declared.statement.StmtKind.TheVariants as Z
use Rattle.spl_tree.specs.declared.symbol.Symbol.TheVariants as S
use Rattle.spl_tree.specs.Trees.{Expr, placed, Stmt}
use Rattle.statement_parser.specs.Lines as lines
use Rattle.statement_parser.specs.Lines.{R, expression_before}
use Rattle.statement_parser.proofs.Readings.{taken, skipped, rule_on, rule_fails}
use Rattle.statement_parser.proofs.StatementReadings.{part_read, part_fails}
use Rattle.statement_parser.proofs.simple.returned.Goals as goal

-- the rule after the value
abbrev made : ℕ → Expr → R (Stmt × Bool)
made at e = done (placed at (Z.Return (Some e)), true)

pub returns-in-Some : goal.returns-in-Some
returns-in-Some c =
    rule_on (lines.returned_rule c.args.at) (done (placed c.args.at (Z.Return None), true)) c.args.ts.now c.in-Some.behind.now c.statement_at.result
    (λ o q. taken c.in-Some.ensures q) c.statement_at.ensures

pub returns-in_err-value : goal.returns-in_err-value
returns-in_err-value c =
    rule_fails (lines.returned_rule c.args.at) _ c.args.ts.now c.args.ts.now _ c.in_err-value.field-0.0 c.from_residual.ensures.1 (λ o q. skipped c.in_default.ensures q)
    (part_fails (expression_before S.Semicolon) (made c.args.at) _ _ c.in_err-value.ensures)

pub returns : goal.returns
returns c =
    rule_on (lines.returned_rule c.args.at) (made c.args.at c.in_ok-value.value) c.args.ts.now c.in_ok-value.behind.now c.statement_at-2.result
    (λ o q. skipped c.in_default.ensures (part_read (expression_before S.Semicolon) (made c.args.at) c.in_ok-value.ensures q)) c.statement_at-2.ensures
