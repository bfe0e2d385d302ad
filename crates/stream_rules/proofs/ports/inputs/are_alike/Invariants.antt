use Rattle.std.proofs.Common.{◌≡◌, drop, flat_map}
use Rattle.language_model.specs.Expansion.{place_of}
use Rattle.language_model.specs.Invoking.{stream_names}
use Rattle.language_model.specs.StreamTypes.{are_alike, name_places, taken_by}
use Rattle.language_model.specs.parts.StreamTypes.{so_often}
use Rattle.stream_rules.specs.steps.Among.{graph_of, unit_of}
use Rattle.body_sites.specs.Bodies.{body_seen}
use Rattle.stream_rules.proofs.ports.inputs.are_alike.Given as goal

abbrev pub invariant-loop-name : goal.invariant-loop-name
invariant-loop-name l =
    are_alike (unit_of l.streams) (graph_of l.streams) l.schema (name_places (body_seen l.body) l.port) l.row
    ≡ are_alike (unit_of l.streams) (graph_of l.streams) l.schema
    (flat_map (λ n. so_often (taken_by (body_seen l.body) n.what (place_of n.what (stream_names l.body.composite.now))) n.at) (drop l.name-index l.name-items)) l.left
