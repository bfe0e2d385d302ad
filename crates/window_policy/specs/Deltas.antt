-- Attributes that rise from tuple to tuple.
use Rattle.std.specs.Prelude.{ℕ, int_lt, false, List, [], ◌∷◌, ◌≡◌}
use Rattle.spl_value.specs.declared.value.Value.{Value}
use Rattle.stream_model.specs.Windows.{integer_at}

-- no tuple is below the one before it in the attribute
abbrev pub RisesAfter : ℕ → List Value → List (List Value) → Type 0
RisesAfter a t [] = Unit {0}
RisesAfter a t (u ∷ us) = (int_lt (integer_at a u) (integer_at a t) ≡ false) × RisesAfter a u us

abbrev pub Rises : ℕ → List (List Value) → Type 0
Rises a [] = Unit {0}
Rises a (t ∷ ts) = RisesAfter a t ts
