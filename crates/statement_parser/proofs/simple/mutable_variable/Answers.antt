use Rattle.std.specs.Prelude.{true}
use Rattle.expr_parser.specs.Rules.{done, call}
use Rattle.spl_tree.specs.declared.statement.StmtKind.TheVariants as Z
use Rattle.spl_tree.specs.Trees.{placed}
use Rattle.statement_parser.specs.Lines as lines
use Rattle.statement_parser.specs.Lines.{R, TypeExpression, Declared}
use Rattle.statement_parser.proofs.Readings.{line_read, rule_on, rule_fails, line_fails}
use Rattle.statement_parser.proofs.simple.mutable_variable.Goals as goal

pub returns-in_err-kind : goal.returns-in_err-kind
returns-in_err-kind c =
    rule_fails (lines.mutable_rule c.args.at) _ c.args.ts.now c.args.ts.now _ c.in_err-kind.field-0.0 c.from_residual.ensures.1 (λ o q. q)
    (line_fails _ TypeExpression (λ k. call (Declared true k) (λ d. done (placed c.args.at (Z.Declare d), true))) _ c.in_err-kind.ensures)

pub returns-in_err-declaration : goal.returns-in_err-declaration
returns-in_err-declaration c =
    rule_fails (lines.mutable_rule c.args.at) _ c.args.ts.now c.in_ok-kind.behind.now _ c.in_err-declaration.field-0.0 c.from_residual-in_err-declaration.ensures.1
    (λ o q. line_read c.in_ok-kind.ensures q)
    (line_fails _ (Declared true c.in_ok-kind.kind) (λ d. done (placed c.args.at (Z.Declare d), true)) _ c.in_err-declaration.ensures)

pub returns : goal.returns
returns c =
    rule_on (lines.mutable_rule c.args.at) (done (placed c.args.at (Z.Declare c.in_ok-declaration.declaration), true)) c.args.ts.now c.in_ok-declaration.behind.now c.statement_at.result
    (λ o q. line_read c.in_ok-kind.ensures (line_read c.in_ok-declaration.ensures q)) c.statement_at.ensures
