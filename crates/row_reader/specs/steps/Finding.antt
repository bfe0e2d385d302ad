-- The first place of a byte.
use Rattle.std.specs.Prelude.{◌≡◌, ◌<◌, ◌==◌, ℕ, false, List, length, take, slice_index}
use Rattle.std.specs.List.{list_any}

-- the byte stands at this place, and nowhere before it
pub record IsFirstAt (byte : ℕ) (bytes : List ℕ) (place : ℕ) : Type 0 where
  pub within : place < length bytes
  pub before : list_any (λ b. b == byte) (take place bytes) ≡ false
  pub here : slice_index bytes place ≡ byte
