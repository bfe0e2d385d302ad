-- A line as `csv` reads it, field by field.
use Rattle.std.specs.Prelude.{◌≡◌, ◌≤◌, ◌<◌, ◌-◌, ◌==◌, ◌&&◌, ◌||◌, nat_le, ◌++◌, Bool, true, ℕ, List, [], ◌∷◌, length, take, drop, slice_index, Option, Some, None}
use Rattle.csv.specs.Machine.{Read, Runs, next_record}
use Rattle.csv.specs.Reading.{default_config, is_bom}
use Rattle.csv.specs.declared.parser.State.TheVariants as st
use Rattle.spl_value.specs.declared.types.SplType.{SplType}
use Rattle.spl_value.specs.declared.value.Value.{Value}
use Rattle.stream_model.specs.parts.Fields.{field_value}
use Rattle.stream_model.specs.Rows as R
use Rattle.row_reader.specs.declared.marked.LineGives.{LineGives}
use Rattle.row_reader.specs.declared.marked.LineGives.TheVariants as G

-- a line begins with a byte order mark
abbrev pub begins_marked : List ℕ → Bool
begins_marked line = nat_le 3 (length line) && is_bom (slice_index line 0) (slice_index line 1) (slice_index line 2)

-- the first record of a text, and what comes after it
abbrev pub first_record : List ℕ → Option Read
first_record text = next_record default_config st.StartRecord [] [] text

-- a byte that ends a line
abbrev pub is_end : ℕ → Bool
is_end b = (b == 13) || (b == 10)

-- a byte that ends a field outside quotes
abbrev pub is_stop : ℕ → Bool
is_stop b = (b == 44) || is_end b

-- a field that isn't in quotes ends at this place: with the text, or at such a byte
abbrev pub StopsAt : List ℕ → ℕ → Type 0
StopsAt text end = (end ≤ length text) × (end < length text → is_stop (slice_index text end) ≡ true)

-- the bytes between two places only join a field that isn't in quotes
pub record IsRun (text : List ℕ) (from end : ℕ) : Type 0 where
  pub order : from ≤ end
  pub joins : Runs default_config st.InField (take (end - from) (drop from text))

-- the field that begins at a place has these bytes, and ends at the other
pub record FieldEnds (text : List ℕ) (at : ℕ) (field : List ℕ) (end : ℕ) : Type 0 where
  pub stops : StopsAt text end
  pub read : (fields : List (List ℕ)) → next_record default_config st.StartField fields [] (drop at text)
      ≡ next_record default_config st.InField fields field (drop end text)

-- the field that begins at a place fits no value of the type
pub record IsMisfit (t : SplType) (text : List ℕ) (at : ℕ) : Type 0 where
  pub field : List ℕ
  pub end : ℕ
  pub ends : FieldEnds text at field end
  pub value : field_value t field ≡ None

-- its value stands after the others
pub record IsFit (t : SplType) (text : List ℕ) (at : ℕ) (old new : List Value) (end : ℕ) : Type 0 where
  pub field : List ℕ
  pub v : Value
  pub ends : FieldEnds text at field end
  pub value : field_value t field ≡ Some v
  pub values : new ≡ old ++ v ∷ []

abbrev pub MarkedField : SplType → List ℕ → ℕ → List Value → List Value → Option ℕ → Type 0
MarkedField t text at old new None = IsMisfit t text at
MarkedField t text at old new (Some end) = IsFit t text at old new end

-- what a line gives, with the values of its row
abbrev pub given_of : LineGives → List Value → R.Given
given_of G.Row values = R.Row values
given_of G.Nothing values = R.Nothing
given_of G.Bad values = R.Bad
