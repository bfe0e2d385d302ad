use Rattle.std.proofs.Common.{sym, map, ◌∙◌}
use Rattle.language_model.specs.parts.Declarations.{invocation_names}
use Rattle.duplicate_rules.specs.steps.Graphs.{shown}
use Rattle.duplicate_rules.proofs.GraphNames.{rows_on, rows_past}
use Rattle.duplicate_rules.proofs.declarations.graphs.add_invocations.Goals as goal

pub loop-invocation-preserved : goal.loop-invocation-preserved
loop-invocation-preserved c =
    rows_on invocation_names c.args.graph.now c.loop-invocation.invocation-index (map shown c.loop-invocation.names.items) (map shown c.add_invocation.new.names.items) c.invocation-item.result c.loop-invocation-test.true c.invocation-item.is c.in_ok-add_invocation.ensures
    ∙ c.loop-invocation.invariant

pub returns : goal.returns
returns c = sym (rows_past invocation_names c.args.graph.now c.loop-invocation.invocation-index (map shown c.loop-invocation.names.items) c.loop-invocation-test.false) ∙ c.loop-invocation.invariant
