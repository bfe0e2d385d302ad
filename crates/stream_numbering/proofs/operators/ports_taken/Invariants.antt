use Rattle.std.proofs.Common.{◌≡◌, map, take}
use Rattle.std.specs.Prelude.{filter_map}
use Rattle.stream_numbering.specs.steps.StreamTable.{stream_in}
use Rattle.stream_numbering.proofs.operators.ports_taken.Given as goal

abbrev pub invariant-loop-port : goal.invariant-loop-port
invariant-loop-port l = l.ins ≡ map (filter_map (stream_in l.table)) (take l.port-index l.ports)
