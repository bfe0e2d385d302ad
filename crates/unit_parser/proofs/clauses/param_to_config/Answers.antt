use Rattle.std.specs.Prelude.{List, Option}
use Rattle.spl_tree.specs.declared.expression.Placed.{Placed}
use Rattle.spl_tree.specs.declared.keyword.Keyword.TheVariants as K
use Rattle.spl_tree.specs.declared.unit.OutputAssignments.{OutputAssignments}
use Rattle.spl_tree.specs.declared.unit.Parameter.{Parameter}
use Rattle.expr_parser.specs.Rules.{done}
use Rattle.statement_parser.proofs.Readings.{finished, line_read, rule_fails, line_fails}
use Rattle.statement_parser.proofs.StatementReadings.{behind, part_read, part_fails}
use Rattle.unit_parser.specs.steps.GivesParts.{param_to_config, output_and_config}
use Rattle.statement_parser.specs.Lines.{R, ParameterClause}
use Rattle.unit_parser.proofs.clauses.param_to_config.Goals as goal

-- the rule after the closing brace, and after the parameters
abbrev closed : List Parameter → Option (Placed (List OutputAssignments)) × List Parameter → R (List Parameter × Option (Placed (List OutputAssignments)) × List Parameter)
closed ps b = done (ps, b.0, b.1)

abbrev given : List Parameter → R (List Parameter × Option (Placed (List OutputAssignments)) × List Parameter)
given ps = behind output_and_config (closed ps)

pub returns-in_err-parameters : goal.returns-in_err-parameters
returns-in_err-parameters c =
    rule_fails param_to_config _ c.args.ts.now c.args.ts.now _ c.in_err-parameters.field-0.0 c.from_residual.ensures.1 (λ o q. q)
    (line_fails _ (ParameterClause K.Param) given _ c.in_err-parameters.ensures)

pub returns-in_err-output : goal.returns-in_err-output
returns-in_err-output c =
    rule_fails param_to_config _ c.args.ts.now c.in_ok-parameters.behind.now _ c.in_err-output.field-0.0 c.from_residual-in_err-output.ensures.1
    (λ o q. line_read c.in_ok-parameters.ensures q)
    (part_fails output_and_config (closed c.in_ok-parameters.parameters) _ _ c.in_err-output.ensures)

pub returns : goal.returns
returns c =
    line_read c.in_ok-parameters.ensures (part_read output_and_config (closed c.in_ok-parameters.parameters) c.in_ok-output.ensures finished)
