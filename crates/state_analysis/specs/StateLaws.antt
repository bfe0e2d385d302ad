-- What the kinds of state say of what operators give.
use Rattle.std.specs.Prelude.{◌≡◌, ⊤, ℕ, [], ◌∷◌}
use Rattle.stream_model.specs.declared.plan.StateKind.{StateKind}
use Rattle.stream_model.specs.declared.plan.StateKind.TheVariants as K
use Rattle.stream_model.specs.Operators.{Operator}
use Rattle.stream_model.specs.Regions.{IsLocal, IsStateless}
use Rattle.stream_model.specs.StateKinds.{state_of}

-- without state, what an event causes depends on the event alone. With one for each key, what a tuple causes depends on the tuples with its key
-- alone, and what a marker causes on itself
abbrev pub HasState : StateKind → Operator → Type 0
HasState K.Stateless op = IsStateless op
HasState (K.Keyed places) op = IsLocal op places
HasState K.Whole op = ⊤

-- an operator with one connection has the state that its clauses say
abbrev pub StateLaw : Type 0
StateLaw = (op : Operator) (s : ℕ) → op.ins ≡ (s ∷ []) ∷ [] → HasState (state_of op) op
