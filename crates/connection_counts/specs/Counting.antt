-- The connections of an operator's ports that haven't ended, counted. A history has its newest event first.
use Prim.Native.Nat.{suc}
use Rattle.std.specs.Prelude.{◌≡◌, ◌<◌, ℕ, Bool, true, false, ◌&&◌, ◌==◌, not, List, [], ◌∷◌, length, slice_get, Some, if◌then◌else◌}
use Rattle.spl_value.specs.declared.item.Item.TheVariants as I
use Rattle.stream_model.specs.Stream.{Event, came}
use Rattle.stream_model.specs.Operators.{Operator, ports}
use Rattle.stream_model.specs.PortEvents.{ends_all, is_over, is_waiting}
use Rattle.connection_counts.specs.declared.connections.Closing.{Closing}
use Rattle.connection_counts.specs.declared.connections.Closing.TheVariants as C

-- how many of the inputs with these ports, counted from i, have had no final marker, of those whose port passes the test
abbrev pub open_from : (ℕ → Bool) → List ℕ → ℕ → List Event → ℕ
open_from test [] i h = 0
open_from test (p ∷ ps) i h = if test p && not (is_over h i) then suc (open_from test ps (suc i) h) else open_from test ps (suc i) h

-- of one port
abbrev pub open_at : Operator → ℕ → List Event → ℕ
open_at op p h = open_from (λ q. q == p) (ports op) 0 h

-- of all ports
abbrev pub open_in : Operator → List Event → ℕ
open_in op h = open_from (λ q. true) (ports op) 0 h

-- the port of each input, how many connections of each port are open, and how many there are in all, after a history
pub record CountsOpen (op : Operator) (h : List Event) (own : List ℕ) (open_of : List ℕ) (left : ℕ) : Type 0 where
  pub ports_are : own ≡ ports op
  pub each : (p : ℕ) → p < length op.ins → slice_get open_of p ≡ Some (open_at op p h)
  pub all : left ≡ open_in op h

-- what a final marker on an input ends
abbrev pub Closes : Operator → List Event → ℕ → Closing → Type 0
Closes op h i C.Waiting = is_waiting op h (came i I.Final) ≡ true
Closes op h i C.Port = (is_waiting op h (came i I.Final) ≡ false) × (ends_all op h (came i I.Final) ≡ false)
Closes op h i C.Operator = (is_waiting op h (came i I.Final) ≡ false) × (ends_all op h (came i I.Final) ≡ true)
