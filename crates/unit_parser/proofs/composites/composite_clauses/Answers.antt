use Rattle.std.specs.Prelude.{List}
use Rattle.expr_parser.specs.Rules.{done}
use Rattle.spl_tree.specs.declared.unit.CompositeParameter.{CompositeParameter}
use Rattle.spl_tree.specs.declared.unit.Invocation.{Invocation}
use Rattle.spl_tree.specs.declared.unit.Parameter.{Parameter}
use Rattle.spl_tree.specs.declared.unit.TypeDefinition.{TypeDefinition}
use Rattle.statement_parser.proofs.Readings.{finished, rule_fails}
use Rattle.statement_parser.proofs.StatementReadings.{behind, part_read, part_fails}
use Rattle.unit_parser.specs.steps.GivesParts.{composite_clauses, parameters_and_types, graph_and_config}
use Rattle.statement_parser.specs.Lines.{R}
use Rattle.unit_parser.proofs.composites.composite_clauses.Goals as goal

-- the rule after the second half, and after the first
abbrev both : List CompositeParameter × List TypeDefinition → List Invocation × List Parameter → R (List CompositeParameter × List TypeDefinition × List Invocation × List Parameter)
both a b = done (a.0, a.1, b.0, b.1)

abbrev second : List CompositeParameter × List TypeDefinition → R (List CompositeParameter × List TypeDefinition × List Invocation × List Parameter)
second a = behind graph_and_config (both a)

pub returns-in_err-parameters : goal.returns-in_err-parameters
returns-in_err-parameters c =
    rule_fails composite_clauses _ c.args.ts.now c.args.ts.now _ c.in_err-parameters.field-0.0 c.from_residual.ensures.1 (λ o q. q)
    (part_fails parameters_and_types second _ _ c.in_err-parameters.ensures)

pub returns-in_err-graph : goal.returns-in_err-graph
returns-in_err-graph c =
    rule_fails composite_clauses _ c.args.ts.now c.in_ok-parameters.behind.now _ c.in_err-graph.field-0.0 c.from_residual-in_err-graph.ensures.1
    (λ o q. part_read parameters_and_types second c.in_ok-parameters.ensures q)
    (part_fails graph_and_config (both (c.in_ok-parameters.parameters, c.in_ok-parameters.types)) _ _ c.in_err-graph.ensures)

pub returns : goal.returns
returns c =
    part_read parameters_and_types second c.in_ok-parameters.ensures
    (part_read graph_and_config (both (c.in_ok-parameters.parameters, c.in_ok-parameters.types)) c.in_ok-graph.ensures finished)
