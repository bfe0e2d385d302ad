use Rattle.std.proofs.Common.{◌≡◌}
use Rattle.language_model.specs.StreamTypes.{output_heads}
use Rattle.language_model.specs.parts.StreamTypes.{outer_output}
use Rattle.stream_rules.specs.steps.Among.{graph_of, unit_of}
use Rattle.body_sites.specs.Bodies.{body_seen}
use Rattle.stream_rules.proofs.ports.outputs.heads_around.Given as goal

abbrev pub invariant-outwards : goal.invariant-outwards
invariant-outwards l =
    outer_output (output_heads l.count (unit_of l.streams) (graph_of l.streams) l.schema) (unit_of l.streams) (graph_of l.streams) l.schema (body_seen l.fn.origin.body) l.fn.origin.output.now
    ≡ outer_output (output_heads l.left (unit_of l.streams) (graph_of l.streams) l.schema) (unit_of l.streams) (graph_of l.streams) l.schema (body_seen l.at.body) l.at.output.now

abbrev pub decreases-outwards : goal.decreases-outwards
decreases-outwards l = l.left
