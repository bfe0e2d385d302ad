use Rattle.std.proofs.Common.{◌≡◌, drop, length}
use Rattle.language_model.specs.StreamTypes.{are_alike}
use Rattle.language_model.specs.parts.StreamTypes.{so_often}
use Rattle.stream_rules.specs.steps.Among.{graph_of, unit_of}
use Rattle.stream_rules.proofs.ports.inputs.row_alike.Given as goal

abbrev pub invariant-loop-stream : goal.invariant-loop-stream
invariant-loop-stream l =
    are_alike (unit_of l.streams) (graph_of l.streams) l.schema (so_often (length l.row) l.at) l.row
    ≡ are_alike (unit_of l.streams) (graph_of l.streams) l.schema (so_often (length (drop l.stream-index l.row)) l.at) (drop l.stream-index l.row)
