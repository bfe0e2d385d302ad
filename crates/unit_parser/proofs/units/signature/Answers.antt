use Rattle.std.specs.Prelude.{List}
use Rattle.expr_parser.specs.Rules.{done, call}
use Rattle.spl_tree.specs.declared.shape.Attribute.{Attribute}
use Rattle.spl_tree.specs.declared.symbol.Symbol.TheVariants as S
use Rattle.spl_tree.specs.Trees.{TypeExpr}
use Rattle.statement_parser.proofs.Readings.{finished, line_read, rule_fails, line_fails}
use Rattle.statement_parser.proofs.StatementReadings.{part_read, part_fails}
use Rattle.unit_parser.specs.steps.GivesParts.{signature}
use Rattle.statement_parser.specs.Lines.{Name, R, FunctionParameters, name_before}
use Rattle.unit_parser.proofs.units.signature.Goals as goal

-- the rule after the parenthesis
abbrev listed : Name → R (Name × List (Attribute TypeExpr))
listed n = call FunctionParameters (λ xs. done (n, xs))

pub returns-in_err-name : goal.returns-in_err-name
returns-in_err-name c =
    rule_fails signature _ c.args.ts.now c.args.ts.now _ c.in_err-name.field-0.0 c.from_residual.ensures.1 (λ o q. q)
    (part_fails (name_before S.LeftParen) listed _ _ c.in_err-name.ensures)

pub returns-in_err-parameters : goal.returns-in_err-parameters
returns-in_err-parameters c =
    rule_fails signature _ c.args.ts.now c.in_ok-name.behind.now _ c.in_err-parameters.field-0.0 c.from_residual-in_err-parameters.ensures.1
    (λ o q. part_read (name_before S.LeftParen) listed c.in_ok-name.ensures q)
    (line_fails _ FunctionParameters (λ xs. done (c.in_ok-name.name, xs)) _ c.in_err-parameters.ensures)

pub returns : goal.returns
returns c = part_read (name_before S.LeftParen) listed c.in_ok-name.ensures (line_read c.in_ok-parameters.ensures finished)
