-- What holds of an operator by its ports: an operator that takes one connection at each port is all that its code has to be, and the
-- connections are counted apart from it.
use Rattle.std.specs.Prelude.{◌≡◌, ◌<◌, ℕ, Bool, true, false, not, List, [], ◌∷◌, length, None, nat_lt}
use Rattle.std.specs.List.{list_all}
use Rattle.stream_model.specs.Stream.{Event, came, is_empty}
use Rattle.stream_model.specs.Operators.{Operator, ports}
use Rattle.stream_model.specs.parts.Operators.{port_at}
use Rattle.stream_model.specs.PortEvents.{by_ports, is_over, is_waiting, port_events}
use Rattle.stream_model.specs.parts.PortEvents.{port_ended}
use Rattle.stream_model.specs.React.{react, ended}

-- each port takes a stream
abbrev pub has_connections : Operator → Bool
has_connections op = list_all (λ streams. not (is_empty streams)) op.ins

-- each event names an input
abbrev pub name_inputs : Operator → List Event → Bool
name_inputs op h = list_all (λ (e : Event). nat_lt e.input (length (ports op))) h

-- an event at its port
abbrev pub at_port : Operator → Event → Event
at_port op e = came (port_at (ports op) e.input) e.item

-- where an event doesn't wait, it causes what it causes at its port after what came by ports, where each port has a single connection, and
-- it ends the operator by the same item
abbrev pub ByPortsLaw : Type 0
ByPortsLaw = (op : Operator) (earlier : List Event) (e : Event) → has_connections op ≡ true → name_inputs op (e ∷ earlier) ≡ true → is_waiting op earlier e ≡ false
    → (react op earlier e ≡ react (by_ports op) (port_events op earlier) (at_port op e))
    × (ended op earlier e ≡ ended (by_ports op) (port_events op earlier) (at_port op e))

-- where it waits, it causes nothing, doesn't end the operator, and isn't among what came by ports
abbrev pub WaitingLaw : Type 0
WaitingLaw = (op : Operator) (earlier : List Event) (e : Event) → is_waiting op earlier e ≡ true
    → (react op earlier e ≡ []) × (ended op earlier e ≡ None) × (port_events op (e ∷ earlier) ≡ port_events op earlier)

-- the end of a port has come by ports exactly where the final marker has come on each of its connections
abbrev pub PortEndLaw : Type 0
PortEndLaw = (op : Operator) (h : List Event) (p : ℕ) → has_connections op ≡ true → name_inputs op h ≡ true → p < length op.ins
    → is_over (port_events op h) p ≡ port_ended op p h

-- by ports nothing waits, and what came by ports is what it is
abbrev pub SinglePortsLaw : Type 0
SinglePortsLaw = (op : Operator) (h : List Event) → has_connections op ≡ true → name_inputs op h ≡ true
    → port_events (by_ports op) (port_events op h) ≡ port_events op h
