-- Words for parts of the rules of events by ports, by which proofs speak of them.
use Rattle.std.specs.Prelude.{Bool, true, List}
use Rattle.stream_model.specs.Operators.{Operator, ports}
use Rattle.stream_model.specs.PortEvents.{all_over}
use Rattle.stream_model.specs.Stream.{Event}

-- all ports have ended
abbrev pub all_ended : Operator → List Event → Bool
all_ended op h = all_over (λ q. true) (ports op) 0 h
