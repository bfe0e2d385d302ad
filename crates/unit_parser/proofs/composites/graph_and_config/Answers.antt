use Rattle.std.specs.Prelude.{List}
use Rattle.expr_parser.specs.Rules.{done, call}
use Rattle.spl_tree.specs.declared.keyword.Keyword.TheVariants as K
use Rattle.spl_tree.specs.declared.symbol.Symbol.TheVariants as S
use Rattle.spl_tree.specs.declared.unit.Invocation.{Invocation}
use Rattle.spl_tree.specs.declared.unit.Parameter.{Parameter}
use Rattle.statement_parser.proofs.Readings.{line_read, rule_on, rule_fails, line_fails}
use Rattle.unit_parser.specs.steps.GivesParts.{graph_and_config}
use Rattle.statement_parser.specs.Lines.{R, GraphClause, ParameterClause, expect}
use Rattle.unit_parser.proofs.composites.graph_and_config.Goals as goal

-- the rule after `config`, and after the graph
abbrev closed : List Invocation → List Parameter → R (List Invocation × List Parameter)
closed xs gs = expect S.RightBrace (done (xs, gs))

abbrev configured : List Invocation → R (List Invocation × List Parameter)
configured xs = call (ParameterClause K.Config) (closed xs)

pub returns-in_err-graph : goal.returns-in_err-graph
returns-in_err-graph c =
    rule_fails graph_and_config _ c.args.ts.now c.args.ts.now _ c.in_err-graph.field-0.0 c.from_residual.ensures.1 (λ o q. q)
    (line_fails _ GraphClause configured _ c.in_err-graph.ensures)

pub returns-in_err-config : goal.returns-in_err-config
returns-in_err-config c =
    rule_fails graph_and_config _ c.args.ts.now c.in_ok-graph.behind.now _ c.in_err-config.field-0.0 c.from_residual-in_err-config.ensures.1
    (λ o q. line_read c.in_ok-graph.ensures q)
    (line_fails _ (ParameterClause K.Config) (closed c.in_ok-graph.graph) _ c.in_err-config.ensures)

pub returns : goal.returns
returns c =
    rule_on graph_and_config (closed c.in_ok-graph.graph c.in_ok-config.config) c.args.ts.now c.in_ok-config.behind.now c.closed.result
    (λ o q. line_read c.in_ok-graph.ensures (line_read c.in_ok-config.ensures q)) c.closed.ensures
