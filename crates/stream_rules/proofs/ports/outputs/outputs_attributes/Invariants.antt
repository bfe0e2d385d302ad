use Rattle.std.proofs.Common.{◌≡◌, drop}
use Rattle.language_model.specs.StreamTypes.{outputs_attributes}
use Rattle.language_model.specs.Finds.{with_front}
use Rattle.stream_rules.specs.steps.Among.{graph_of, unit_of}
use Rattle.body_sites.specs.Bodies.{body_seen}
use Rattle.stream_rules.proofs.ports.outputs.outputs_attributes.Given as goal

abbrev pub invariant-loop-at : goal.invariant-loop-at
invariant-loop-at l =
    outputs_attributes (unit_of l.streams) (graph_of l.streams) (body_seen l.body) l.outputs l.outs
    ≡ with_front l.schemas (outputs_attributes (unit_of l.streams) (graph_of l.streams) (body_seen l.body) (drop l.at l.outputs) (drop l.at l.outs))
