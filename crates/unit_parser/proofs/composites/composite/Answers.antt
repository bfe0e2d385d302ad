use Rattle.std.specs.Prelude.{List}
use Rattle.expr_parser.specs.Rules.{done}
use Rattle.spl_tree.specs.declared.unit.Composite.{Composite}
use Rattle.spl_tree.specs.declared.unit.CompositeParameter.{CompositeParameter}
use Rattle.spl_tree.specs.declared.unit.HeadPort.{HeadPort}
use Rattle.spl_tree.specs.declared.unit.Invocation.{Invocation}
use Rattle.spl_tree.specs.declared.unit.Parameter.{Parameter}
use Rattle.spl_tree.specs.declared.unit.TypeDefinition.{TypeDefinition}
use Rattle.statement_parser.proofs.Readings.{finished, reads, name_passed, line_read, fails, name_fails, line_fails}
use Rattle.unit_parser.proofs.CompositeReadings.{composite_named}
use Rattle.statement_parser.proofs.StatementReadings.{part_read, part_fails}
use Rattle.unit_parser.specs.steps.GivesParts.{composite_clauses}
use Rattle.statement_parser.specs.Lines as lines
use Rattle.statement_parser.specs.Lines.{Name, R}
use Rattle.unit_parser.proofs.composites.composite.Goals as goal

-- the rule after the closing brace
abbrev made : Name → List HeadPort × List HeadPort → List CompositeParameter × List TypeDefinition × List Invocation × List Parameter → R Composite
made n h b = done (record { name = n; outputs = h.0; inputs = h.1; parameters = b.0; types = b.1; graph = b.2; config = b.3 })

pub returns-in_err-name : goal.returns-in_err-name
unfolding lines.rule
returns-in_err-name c =
    fails lines.CompositeOf c.args.ts.now c.args.ts.now _ c.from_residual.result c.in_err-name.field-0.0 c.from_residual.ensures.1
    (λ o q. reads q)
    (name_fails _ composite_named _ c.in_err-name.ensures)

pub returns-in_err-outputs : goal.returns-in_err-outputs
unfolding lines.rule
returns-in_err-outputs c =
    fails lines.CompositeOf c.args.ts.now c.in_ok-name.behind.now _ c.from_residual-in_err-outputs.result c.in_err-outputs.field-0.0 c.from_residual-in_err-outputs.ensures.1
    (λ o q. reads (name_passed composite_named c.in_ok-name.ensures q))
    (line_fails _ lines.HeadPorts _ _ c.in_err-outputs.ensures)

pub returns-in_err-parameters : goal.returns-in_err-parameters
unfolding lines.rule
returns-in_err-parameters c =
    fails lines.CompositeOf c.args.ts.now c.in_ok-outputs.behind.now _ c.from_residual-in_err-parameters.result c.in_err-parameters.field-0.0 c.from_residual-in_err-parameters.ensures.1
    (λ o q. reads (name_passed composite_named c.in_ok-name.ensures (line_read c.in_ok-outputs.ensures q)))
    (part_fails composite_clauses (made c.in_ok-name.name (c.in_ok-outputs.outputs, c.in_ok-outputs.inputs)) _ _ c.in_err-parameters.ensures)

pub returns : goal.returns
unfolding lines.rule
returns c =
    reads (name_passed composite_named c.in_ok-name.ensures (line_read c.in_ok-outputs.ensures
    (part_read composite_clauses (made c.in_ok-name.name (c.in_ok-outputs.outputs, c.in_ok-outputs.inputs)) c.in_ok-parameters.ensures finished)))
