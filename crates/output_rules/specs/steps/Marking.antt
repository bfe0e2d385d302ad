-- Marks of the attributes that are assigned.
use Rattle.std.specs.Prelude.{◌≡◌, ℕ, ◌==◌, Bool, false, List, slice_get, unwrap_or}
use Rattle.std.specs.List.{list_any}

abbrev pub is_marked : List Bool → ℕ → Bool
is_marked marks place = unwrap_or (slice_get marks place) false

-- the marks are those of some places
pub record Tells (places : List ℕ) (marks : List Bool) : Type 0 where
  pub told : (place : ℕ) → is_marked marks place ≡ list_any (λ n. n == place) places
