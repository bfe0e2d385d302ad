use Rattle.std.proofs.Common.{◌≡◌, ◌++◌, map, drop, length}
use Rattle.stream_model.specs.Operators.{ports_from}
use Rattle.connection_counts.proofs.connections.Connections.new.Given as goal

abbrev pub invariant-ports : goal.invariant-ports
invariant-ports l = (l.ports ++ ports_from l.port (drop l.port l.ins) ≡ ports_from 0 l.ins) × (l.open ++ map length (drop l.port l.ins) ≡ map length l.ins)
