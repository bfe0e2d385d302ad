-- The value of a field behind others, and at its place of a tuple.
use Rattle.std.specs.Prelude.{◌≡◌, ◌≤◌, ◌+◌, ◌++◌, ℕ, Bool, true, false, List, [], ◌∷◌, Option, Some, None, length, take}
use Rattle.spl_value.specs.declared.value.Value.{Value}

-- a field's value, where there is one, comes after the values
abbrev pub Added : Option Value → Bool → List Value → List Value → Type 0
Added None fits old new = fits ≡ false
Added (Some v) fits old new = (fits ≡ true) × (new ≡ old ++ v ∷ [])

-- a value stands at a place of a tuple, behind those that stood in front of it before
pub record IsPut (at : ℕ) (v : Value) (old new : List Value) : Type 0 where
  pub front : take (at + 1) new ≡ take at old ++ v ∷ []
  pub room : at + 1 ≤ length new

-- a field's value, where there is one, stands there
abbrev pub Puts : Option Value → Bool → ℕ → List Value → List Value → Type 0
Puts None fits at old new = fits ≡ false
Puts (Some v) fits at old new = (fits ≡ true) × IsPut at v old new
