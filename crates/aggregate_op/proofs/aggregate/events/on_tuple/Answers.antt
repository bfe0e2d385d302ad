use Rattle.std.proofs.Common.{length, ap, ◌∙◌}
use Rattle.spl_value.proofs.Lists.{map_length}
use Rattle.stream_model.specs.Bodies.{at_tuple, most_turns}
use Rattle.aggregate_op.specs.Arguments.{blank}
use Rattle.aggregate_op.proofs.FiringSteps.{arguments_many}
use Rattle.aggregate_op.proofs.aggregate.events.on_tuple.Goals as goal

pub fire-requires-clause-many : goal.fire-requires-clause-many
fire-requires-clause-many c =
    let e = c.in-Ok-with_arguments.ensures.has in
    ap length e.4 ∙ map_length blank e.0 ∙ arguments_many c.functions.result.now c.args.clauses.now.output.now (at_tuple c.args.tuple) most_turns e.0 e.1 e.2
