-- What the clauses of an operator say of its meaning.
use Rattle.std.specs.Prelude.{◌≡◌, ℕ, List, [], ◌∷◌}
use Rattle.stream_model.specs.declared.plan.StateKind.TheVariants as K
use Rattle.stream_model.specs.Operators.{Operator}
use Rattle.stream_model.specs.StateKinds.{state_of}
use Rattle.stream_model.specs.Regions.{IsLocal, IsStateless}

-- where the clauses of an operator with one connection keep no state, what an event causes depends on the event alone
abbrev pub StatelessLaw : Type 0
StatelessLaw = (op : Operator) (s : ℕ) → op.ins ≡ (s ∷ []) ∷ [] → state_of op ≡ K.Stateless → IsStateless op

-- where they keep a state for each key, what a tuple causes depends on the tuples with its key alone, and what a marker causes on itself alone
abbrev pub KeyedLaw : Type 0
KeyedLaw = (op : Operator) (s : ℕ) (places : List ℕ) → op.ins ≡ (s ∷ []) ∷ [] → state_of op ≡ K.Keyed places → IsLocal op places
