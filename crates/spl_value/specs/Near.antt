-- Digits whose number is followed only up to a bound past every kind.
use Rattle.std.specs.Prelude.{◌≡◌, ◌⊎◌, ◌≤◌, ◌^◌, ℕ, List, Some}
use Rattle.spl_value.specs.Decimal.{natural}

-- n is the number m, or both are past every kind
abbrev pub IsNear : ℕ → ℕ → Type 0
IsNear n m = (n ≡ m) ⊎ ((10 ^ 20 ≤ n) × (10 ^ 20 ≤ m))

-- digits spell the number that this is near to
abbrev pub Spells : List ℕ → ℕ → Type 0
Spells digits n = (m : ℕ) × (natural digits ≡ Some m) × IsNear n m
