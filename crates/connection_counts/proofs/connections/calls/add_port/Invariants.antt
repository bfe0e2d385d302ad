use Rattle.std.proofs.Common.{◌≡◌, ◌++◌, map, drop}
use Rattle.connection_counts.proofs.connections.calls.add_port.Given as goal

abbrev pub invariant-streams : goal.invariant-streams
invariant-streams l = l.ports ++ map (λ s. l.port) (drop l._stream-index l.streams) ≡ l.initial.ports ++ map (λ s. l.port) l.streams
