-- The tuples that a chain has given its sink and that nobody has taken yet, and where they stand.
use Rattle.std.specs.Prelude.{ℕ, ◌≡◌, ◌<◌, ⊤, Bool, true, false, List, [], ◌∷◌, ◌++◌, length, Option, None, Some}
use Rattle.spl_value.specs.declared.value.Value.{Value}
use Rattle.language_model.specs.declared.outs.Output.{Output}
use Rattle.stream_model.specs.Stages.{on_port}
use Rattle.network_model.specs.Sinks.{tuples_in}
use Rattle.operator_chains.specs.Places.{tuple_at}
use Rattle.element_works.specs.declared.tuples.Tuples.{Tuples}

-- the tuple that stands at a place, if one does
abbrev pub standing_at : List (List Value) → Option ℕ → List (List Value)
standing_at places None = []
standing_at places (Some at) = tuple_at places at ∷ []

-- in their order
abbrev pub sink_waits : Tuples → List (List Value)
sink_waits t = standing_at t.places.items t.ready ++ t.waiting.items

-- how many places there are
abbrev pub room_of : Tuples → ℕ
room_of t = length t.places.items

-- the place of the one that stands is one of these
abbrev pub IsWithin : ℕ → Option ℕ → Type 0
IsWithin n None = ⊤
IsWithin n (Some at) = at < n

abbrev pub IsKept : Tuples → Type 0
IsKept t = IsWithin (room_of t) t.ready

-- of what the last operator gives, the tuples that its sink is given
abbrev pub for_writer : List Output → List (List Value)
for_writer outs = tuples_in (on_port 0 outs)

-- the first of those that waited was taken, if one waited
abbrev pub HasTaken : Bool → List Value → List (List Value) → List (List Value) → Type 0
HasTaken true tuple before after = before ≡ tuple ∷ after
HasTaken false tuple before after = (before ≡ []) × (after ≡ [])
