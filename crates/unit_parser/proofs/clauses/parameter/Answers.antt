use Rattle.std.specs.Prelude.{[]}
use Rattle.spl_tree.specs.declared.unit.Parameter.{Parameter}
use Rattle.spl_tree.specs.declared.symbol.Symbol.TheVariants as S
use Rattle.expr_parser.specs.Lines as expressions
use Rattle.expr_parser.specs.Rules.{done, call}
use Rattle.unit_parser.specs.steps.GivesParts.{parameter}
use Rattle.statement_parser.specs.Lines.{Name, R, name_before, Expression}
use Rattle.statement_parser.proofs.Readings.{finished, expression_read, rule_fails, expression_fails}
use Rattle.statement_parser.proofs.StatementReadings.{part_read, part_fails}
use Rattle.unit_parser.proofs.clauses.parameter.Goals as goal

-- the rule after the name
abbrev named : Name → R Parameter
named n = call (Expression (expressions.Items S.Semicolon [])) (λ y. done (record { name = n; values = y }))

pub returns-in_err-name : goal.returns-in_err-name
returns-in_err-name c =
    rule_fails parameter _ c.args.ts.now c.args.ts.now _ c.in_err-name.field-0.0 c.from_residual.ensures.1 (λ o q. q)
    (part_fails (name_before S.Colon) named _ _ c.in_err-name.ensures)

pub returns-in_err-values : goal.returns-in_err-values
returns-in_err-values c =
    rule_fails parameter _ c.args.ts.now c.in_ok-name.behind.now _ c.in_err-values.field-0.0 c.from_residual-in_err-values.ensures.1
    (λ o q. part_read (name_before S.Colon) named c.in_ok-name.ensures q)
    (expression_fails _ (expressions.Items S.Semicolon []) (λ y. done (record { name = c.in_ok-name.name; values = y })) _ c.in_err-values.ensures.rule)

pub returns : goal.returns
returns c = part_read (name_before S.Colon) named c.in_ok-name.ensures (expression_read c.in_ok-values.ensures.rule finished)
