use Rattle.expr_parser.specs.Rules.{done, call}
use Rattle.spl_tree.specs.declared.symbol.Symbol.TheVariants as S
use Rattle.spl_tree.specs.declared.unit.TypeDefinition.{TypeDefinition}
use Rattle.statement_parser.proofs.Readings.{finished, reads, line_read, fails, line_fails}
use Rattle.statement_parser.proofs.StatementReadings.{part_read, part_fails}
use Rattle.statement_parser.specs.Lines as lines
use Rattle.statement_parser.specs.Lines.{Name, R, name_before}
use Rattle.unit_parser.proofs.composites.type_definition.Goals as goal

-- the rule after the `=`
abbrev named : Name → R TypeDefinition
named n = call (lines.Shaped S.Semicolon) (λ h. done (record { name = n; shape = h }))

pub returns-in_err-name : goal.returns-in_err-name
unfolding lines.rule
returns-in_err-name c =
    fails lines.TypeOf c.args.ts.now c.args.ts.now _ c.from_residual.result c.in_err-name.field-0.0 c.from_residual.ensures.1
    (λ o q. reads q)
    (part_fails (name_before S.Assign) named _ _ c.in_err-name.ensures)

pub returns-in_err-shape : goal.returns-in_err-shape
unfolding lines.rule
returns-in_err-shape c =
    fails lines.TypeOf c.args.ts.now c.in_ok-name.behind.now _ c.from_residual-in_err-shape.result c.in_err-shape.field-0.0 c.from_residual-in_err-shape.ensures.1
    (λ o q. reads (part_read (name_before S.Assign) named c.in_ok-name.ensures q))
    (line_fails _ (lines.Shaped S.Semicolon) (λ h. done (record { name = c.in_ok-name.name; shape = h })) _ c.in_err-shape.ensures)

pub returns : goal.returns
unfolding lines.rule
returns c = reads (part_read (name_before S.Assign) named c.in_ok-name.ensures (line_read c.in_ok-shape.ensures finished))
