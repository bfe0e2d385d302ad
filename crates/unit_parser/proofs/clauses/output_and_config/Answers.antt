use Rattle.std.specs.Prelude.{List, Option}
use Rattle.spl_tree.specs.declared.expression.Placed.{Placed}
use Rattle.spl_tree.specs.declared.keyword.Keyword.TheVariants as K
use Rattle.spl_tree.specs.declared.symbol.Symbol.TheVariants as S
use Rattle.spl_tree.specs.declared.unit.OutputAssignments.{OutputAssignments}
use Rattle.spl_tree.specs.declared.unit.Parameter.{Parameter}
use Rattle.expr_parser.specs.Rules.{done, call}
use Rattle.statement_parser.proofs.Readings.{line_read, rule_on, rule_fails, line_fails}
use Rattle.unit_parser.specs.steps.GivesParts.{output_and_config}
use Rattle.statement_parser.specs.Lines.{R, ParameterClause, OutputClause, expect}
use Rattle.unit_parser.proofs.clauses.output_and_config.Goals as goal

-- the rule after `config`, and after `output`
abbrev closed : Option (Placed (List OutputAssignments)) → List Parameter → R (Option (Placed (List OutputAssignments)) × List Parameter)
closed u gs = expect S.RightBrace (done (u, gs))

abbrev configured : Option (Placed (List OutputAssignments)) → R (Option (Placed (List OutputAssignments)) × List Parameter)
configured u = call (ParameterClause K.Config) (closed u)

pub returns-in_err-output : goal.returns-in_err-output
returns-in_err-output c =
    rule_fails output_and_config _ c.args.ts.now c.args.ts.now _ c.in_err-output.field-0.0 c.from_residual.ensures.1 (λ o q. q)
    (line_fails _ OutputClause configured _ c.in_err-output.ensures)

pub returns-in_err-config : goal.returns-in_err-config
returns-in_err-config c =
    rule_fails output_and_config _ c.args.ts.now c.in_ok-output.behind.now _ c.in_err-config.field-0.0 c.from_residual-in_err-config.ensures.1
    (λ o q. line_read c.in_ok-output.ensures q)
    (line_fails _ (ParameterClause K.Config) (closed c.in_ok-output.output) _ c.in_err-config.ensures)

pub returns : goal.returns
returns c =
    rule_on output_and_config (closed c.in_ok-output.output c.in_ok-config.config) c.args.ts.now c.in_ok-config.behind.now c.closed.result
    (λ o q. line_read c.in_ok-output.ensures (line_read c.in_ok-config.ensures q)) c.closed.ensures
