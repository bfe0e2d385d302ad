use Rattle.std.proofs.Common.{◌≡◌, drop}
use Rattle.language_model.specs.StreamTypes.{ports_attributes}
use Rattle.language_model.specs.Finds.{with_front}
use Rattle.stream_rules.specs.steps.Among.{graph_of, unit_of}
use Rattle.body_sites.specs.Bodies.{body_seen}
use Rattle.stream_rules.proofs.ports.inputs.ports_attributes.Given as goal

abbrev pub invariant-loop-at : goal.invariant-loop-at
invariant-loop-at l =
    ports_attributes (unit_of l.streams) (graph_of l.streams) (body_seen l.body) l.ports l.ins
    ≡ with_front l.schemas (ports_attributes (unit_of l.streams) (graph_of l.streams) (body_seen l.body) (drop l.at l.ports) (drop l.at l.ins))
