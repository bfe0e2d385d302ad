-- Words for parts of the rules of events by ports: the end of a port.
use Rattle.std.specs.Prelude.{ℕ, ◌==◌, Bool, List}
use Rattle.stream_model.specs.Operators.{Operator, ports}
use Rattle.stream_model.specs.PortEvents.{all_over}
use Rattle.stream_model.specs.Stream.{Event}

-- the port has ended
abbrev pub port_ended : Operator → ℕ → List Event → Bool
port_ended op p h = all_over (λ q. q == p) (ports op) 0 h
