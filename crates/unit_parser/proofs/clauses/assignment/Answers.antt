use Rattle.spl_tree.specs.declared.expression.Field.{Field}
use Rattle.spl_tree.specs.Trees.{Expr}
use Rattle.spl_tree.specs.declared.symbol.Symbol.TheVariants as S
use Rattle.expr_parser.specs.Lines as expressions
use Rattle.expr_parser.specs.Rules.{done, call}
use Rattle.unit_parser.specs.steps.GivesParts.{assignment}
use Rattle.statement_parser.specs.Lines.{Name, R, name_before, Expression}
use Rattle.statement_parser.proofs.Readings.{finished, expression_read, rule_fails, expression_fails}
use Rattle.statement_parser.proofs.StatementReadings.{part_read, part_fails}
use Rattle.unit_parser.proofs.clauses.assignment.Goals as goal

-- the rule after the name
abbrev named : Name → R (Field Expr)
named n = call (Expression expressions.Whole) (λ y. done (expressions.field n y))

pub returns-in_err-name : goal.returns-in_err-name
returns-in_err-name c =
    rule_fails assignment _ c.args.ts.now c.args.ts.now _ c.in_err-name.field-0.0 c.from_residual.ensures.1 (λ o q. q)
    (part_fails (name_before S.Assign) named _ _ c.in_err-name.ensures)

pub returns-in_err-value : goal.returns-in_err-value
returns-in_err-value c =
    rule_fails assignment _ c.args.ts.now c.in_ok-name.behind.now _ c.in_err-value.field-0.0 c.from_residual-in_err-value.ensures.1
    (λ o q. part_read (name_before S.Assign) named c.in_ok-name.ensures q)
    (expression_fails _ expressions.Whole (λ y. done (expressions.field c.in_ok-name.name y)) _ c.in_err-value.ensures.rule)

pub returns : goal.returns
returns c = part_read (name_before S.Assign) named c.in_ok-name.ensures (expression_read c.in_ok-value.ensures.rule finished)
