use Rattle.std.specs.Prelude.{ℕ, Bool}
use Rattle.spl_tree.specs.declared.statement.StmtKind.TheVariants as Z
use Rattle.spl_tree.specs.declared.symbol.Symbol.TheVariants as S
use Rattle.spl_tree.specs.Trees.{Expr, Stmt}
use Rattle.statement_parser.specs.Lines as lines
use Rattle.statement_parser.specs.Lines.{Name, R, name_before}
use Rattle.statement_parser.specs.steps.Parts.{expression_between}
use Rattle.statement_parser.proofs.Readings.{rule_on, rule_fails}
use Rattle.statement_parser.proofs.StatementReadings.{behind, part_read, part_fails}
use Rattle.statement_parser.proofs.simple.submitted.Goals as goal

-- the rule after the name, and after the value
abbrev named : ℕ → Expr → Name → R (Stmt × Bool)
named at e n = lines.ended_rule at (Z.Submit e n)

abbrev valued : ℕ → Expr → R (Stmt × Bool)
valued at e = behind (name_before S.RightParen) (named at e)

pub returns-in_err-value : goal.returns-in_err-value
returns-in_err-value c =
    rule_fails (lines.submitted_rule c.args.at) _ c.args.ts.now c.args.ts.now _ c.in_err-value.field-0.0 c.from_residual.ensures.1 (λ o q. q)
    (part_fails (expression_between S.LeftParen S.Comma) (valued c.args.at) _ _ c.in_err-value.ensures)

pub returns-in_err-stream : goal.returns-in_err-stream
returns-in_err-stream c =
    rule_fails (lines.submitted_rule c.args.at) _ c.args.ts.now c.in_ok-value.behind.now _ c.in_err-stream.field-0.0 c.from_residual-in_err-stream.ensures.1
    (λ o q. part_read (expression_between S.LeftParen S.Comma) (valued c.args.at) c.in_ok-value.ensures q)
    (part_fails (name_before S.RightParen) (named c.args.at c.in_ok-value.value) _ _ c.in_err-stream.ensures)

pub returns : goal.returns
returns c =
    rule_on (lines.submitted_rule c.args.at) (named c.args.at c.in_ok-value.value c.in_ok-stream.stream) c.args.ts.now c.in_ok-stream.behind.now c.ended.result
    (λ o q. part_read (expression_between S.LeftParen S.Comma) (valued c.args.at) c.in_ok-value.ensures
    (part_read (name_before S.RightParen) (named c.args.at c.in_ok-value.value) c.in_ok-stream.ensures q)) c.ended.ensures
