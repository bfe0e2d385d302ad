use Rattle.expr_parser.specs.Rules.{done}
use Rattle.spl_tree.specs.declared.shape.Attribute.{Attribute}
use Rattle.spl_tree.specs.Trees.{Expr, TypeExpr}
use Rattle.statement_parser.specs.steps.GivesStatements as statements
use Rattle.statement_parser.specs.Lines.{R}
use Rattle.statement_parser.proofs.Readings.{finished, rule_fails}
use Rattle.statement_parser.proofs.StatementReadings.{behind, part_read, part_fails}
use Rattle.statement_parser.proofs.simple.for_head.Goals as goal

-- the rule after the variable, and after what it goes over
abbrev closed : Attribute TypeExpr → Expr → R (Attribute TypeExpr × Expr)
closed v e = done (v, e)

abbrev over : Attribute TypeExpr → R (Attribute TypeExpr × Expr)
over v = behind statements.gone_over (closed v)

pub returns-in_err-variable : goal.returns-in_err-variable
returns-in_err-variable c =
    rule_fails statements.for_head _ c.args.ts.now c.args.ts.now _ c.in_err-variable.field-0.0 c.from_residual.ensures.1 (λ o q. q)
    (part_fails statements.for_variable over _ _ c.in_err-variable.ensures)

pub returns-in_err-over : goal.returns-in_err-over
returns-in_err-over c =
    rule_fails statements.for_head _ c.args.ts.now c.in_ok-variable.behind.now _ c.in_err-over.field-0.0 c.from_residual-in_err-over.ensures.1
    (λ o q. part_read statements.for_variable over c.in_ok-variable.ensures q)
    (part_fails statements.gone_over (closed c.in_ok-variable.variable) _ _ c.in_err-over.ensures)

pub returns : goal.returns
returns c =
    part_read statements.for_variable over c.in_ok-variable.ensures
    (part_read statements.gone_over (closed c.in_ok-variable.variable) c.in_ok-over.ensures finished)
