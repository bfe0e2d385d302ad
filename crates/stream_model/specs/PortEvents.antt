-- The events of an operator by its ports. A history has its newest event first. An event of a port has the port's
-- number, and the final marker of a port stands for its end: those for whose port another connection is still without
-- one are left out.
use Prim.Native.Nat.{suc}
use Rattle.std.specs.Prelude.{ℕ, ◌==◌, Bool, true, false, ◌&&◌, not, List, [], ◌∷◌, map, slice_index, if◌then◌else◌}
use Rattle.spl_value.specs.declared.item.Item.{Item}
use Rattle.stream_model.specs.Stream.{Event, came, is_final}
use Rattle.stream_model.specs.Inputs.{came_on}
use Rattle.stream_model.specs.Operators.{Operator, ports}

-- the final marker has come on an input
abbrev pub is_over : List Event → ℕ → Bool
is_over [] i = false
is_over (e ∷ h) i = if (e.input == i) && is_final e.item then true else is_over h i

-- it has come on each input, counted from i, whose port passes the test
abbrev pub all_over : (ℕ → Bool) → List ℕ → ℕ → List Event → Bool
all_over test [] i h = true
all_over test (p ∷ ps) i h = if test p then is_over h i && all_over test ps (suc i) h else all_over test ps (suc i) h

-- a final marker on a port that has another connection without one
abbrev pub is_waiting : Operator → List Event → Event → Bool
is_waiting op earlier event =
    is_final event.item && not (all_over (λ p. p == slice_index (ports op) event.input) (ports op) 0 (event ∷ earlier))

-- all ports have ended with this event
abbrev pub ends_all : Operator → List Event → Event → Bool
ends_all op earlier event = is_final event.item && all_over (λ p. true) (ports op) 0 (event ∷ earlier)

-- what came by ports
abbrev pub port_events : Operator → List Event → List Event
port_events op [] = []
port_events op (e ∷ h) =
    if is_waiting op h e then port_events op h else came (slice_index (ports op) e.input) e.item ∷ port_events op h

-- the items of a port
abbrev pub port_items : ℕ → List Event → List Item
port_items port h = came_on (λ p. p == port) h

-- the operator with a single connection at each port
abbrev pub by_ports : Operator → Operator
by_ports op = record { number = op.number; clauses = op.clauses; functions = op.functions; types = op.types; ins = map (λ streams. 0 ∷ []) op.ins; outs = op.outs }
