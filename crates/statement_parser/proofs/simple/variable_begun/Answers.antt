use Rattle.std.specs.Prelude.{false}
use Rattle.std.proofs.Common.{Err, subst}
use Rattle.expr_parser.specs.Rules.{done, Took, Reads}
use Rattle.spl_tree.specs.declared.shape.TypeKind.TheVariants as Y
use Rattle.spl_tree.specs.declared.statement.StmtKind.TheVariants as Z
use Rattle.spl_tree.specs.Trees.{placed}
use Rattle.statement_parser.specs.Gives.{Gives}
use Rattle.statement_parser.specs.steps.GivesStatements as statements
use Rattle.statement_parser.specs.Lines.{Valued, rule}
use Rattle.statement_parser.proofs.Readings.{line_read, rule_on, rule_fails, line_fails}
use Rattle.statement_parser.proofs.simple.variable_begun.Goals as goal

pub returns-in_err-declaration : goal.returns-in_err-declaration
returns-in_err-declaration c =
    rule_fails (statements.variable_rule c.args.at c.args.name c.args.variable) _ c.args.ts.now c.args.ts.now _ c.in_err-declaration.field-0.0 c.from_residual-in_err-declaration.ensures.1
    (λ o q. q)
    (line_fails _ (Valued false (placed c.args.at (Y.Name c.args.name)) c.args.variable) (λ d. done (placed c.args.at (Z.Declare d))) _
    (subst (λ k. Gives (Valued false k c.args.variable) c.args.ts.now (Err c.in_err-declaration.field-0.0)) c.in_ok-kind.ensures c.in_err-declaration.ensures))

pub returns : goal.returns
returns c =
    rule_on (statements.variable_rule c.args.at c.args.name c.args.variable) (done (placed c.args.at (Z.Declare c.in_ok-declaration.declaration))) c.args.ts.now c.in_ok-declaration.behind.now
    c.statement_made.result
    (λ o q. line_read (subst (λ k. Reads rule (Valued false k c.args.variable) c.args.ts.now (Took c.in_ok-declaration.declaration c.in_ok-declaration.behind.now)) c.in_ok-kind.ensures c.in_ok-declaration.ensures) q)
    c.statement_made.ensures
