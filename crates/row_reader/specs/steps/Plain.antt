-- Lines that read as the fields between their commas.
use Rattle.std.specs.Prelude.{◌≡◌, ◌≤◌, ◌<◌, ◌==◌, ◌||◌, Bool, false, ℕ, List, [], ◌∷◌, Some, length, take, slice_index}
use Rattle.std.specs.List.{list_any}
use Rattle.spl_value.specs.declared.types.SplType.{SplType}
use Rattle.spl_value.specs.declared.value.Value.{Value}
use Rattle.stream_model.specs.parts.Fields.{field_value}
use Rattle.row_reader.specs.steps.Adding.{IsPut}

-- a byte that means something to `csv` beside a comma
abbrev pub is_mark : ℕ → Bool
is_mark b = (b == 34) || ((b == 13) || (b == 10))

-- whether a line may begin with a byte order mark
abbrev pub may_be_marked : List ℕ → Bool
may_be_marked [] = false
may_be_marked (b ∷ bs) = b == 239

-- a comma or a mark
abbrev pub is_stop_or_mark : ℕ → Bool
is_stop_or_mark b = (b == 44) || is_mark b

-- the first field has `end` bytes: a comma comes after it, or nothing
pub record IsCut (line : List ℕ) (end : ℕ) : Type 0 where
  pub within : end ≤ length line
  pub free : list_any is_stop_or_mark (take end line) ≡ false
  pub comma : end < length line → slice_index line end ≡ 44

-- the first field has `end` bytes, and its value stands at a place of a tuple
pub record FirstPut (t : SplType) (line : List ℕ) (at : ℕ) (old new : List Value) (end : ℕ) : Type 0 where
  pub v : Value
  pub cut : IsCut line end
  pub value : field_value t (take end line) ≡ Some v
  pub put : IsPut at v old new
