-- Integers of a few digits.
use Rattle.std.specs.Prelude.{◌≡◌, ◌<◌, ◌^◌, ◌++◌, ℕ, ℤ, true, false, List, [], ◌∷◌, length, take, Option, Some, None}
use Rattle.std.specs.List.{prefix_len}
use Rattle.spl_value.specs.declared.types.IntKind.{IntKind}
use Rattle.spl_value.specs.declared.value.Value.{Value}
use Rattle.spl_value.specs.declared.value.Value.TheVariants as V
use Rattle.spl_value.specs.Decimal.{natural}
use Rattle.spl_value.specs.Values.{kind_holds}
use Rattle.txt_format.specs.steps.Bytes.{is_part}

-- the number that the digits at the front spell, and how many they are; no other byte of an integer is behind them
pub record IsShort (text : List ℕ) (r : ℕ × ℕ) : Type 0 where
  pub within : r.1 < length text
  pub count : prefix_len is_part text ≡ r.1
  pub value : natural (take r.1 text) ≡ Some r.0
  pub small : r.0 < 10 ^ 18

-- a number of the kind is added, and ends at that place
abbrev pub IsAdded : IntKind → ℤ → ℕ → List Value → List Value → Option ℕ → Type 0
IsAdded k n end old new None = kind_holds k n ≡ false
IsAdded k n end old new (Some at) = (kind_holds k n ≡ true) × (at ≡ end) × (new ≡ old ++ V.Int n ∷ [])
