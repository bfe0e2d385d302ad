-- The rows of a source's file as its stream, and the text of a stream's tuples as rows. A line is read, and a row
-- written, as `csv` says.
use Rattle.std.specs.Prelude.{◌+◌, ◌-◌, ◌==◌, ◌&&◌, nat_lt, Bool, not, ℕ, List, [], ◌∷◌, length, map, Option, Some, None, if◌then◌else◌}
use Rattle.std.specs.List.{flat_map, slice_split}
use Rattle.std.specs.Option.{option_map_or, unwrap_or}
use Rattle.csv.specs.Reading.{default_config, records, strip_bom}
use Rattle.csv.specs.Writing.{default_writer, row_text}
use Rattle.spl_value.specs.Script.{Ending, End, Failed}
use Rattle.spl_value.specs.declared.value.Value.{Value}
use Rattle.spl_value.specs.declared.value.Value.TheViews.{out-Value}
use Rattle.spl_value.specs.declared.item.Item.{Item}
use Rattle.spl_value.specs.declared.item.Item.TheVariants as I
use Rattle.spl_value.specs.declared.item.FaultKind.{FaultKind}
use Rattle.spl_value.specs.declared.item.FaultKind.TheVariants as K
use Rattle.spl_value.specs.declared.types.Named.{Named}
use Rattle.spl_value.specs.declared.types.SplType.{SplType}
use Rattle.stream_model.specs.Fields.{tuple_of, level_field}

-- whose rows they are: the operator's number, the schema, whether a bad row is a fault, and the most bytes of a file
pub record Setting : Type 0 where
  pub op : ℕ
  pub schema : List (Named SplType)
  pub strict : Bool
  pub limit : ℕ

-- what a line gives
pub data Given : Type 0 where
  Row : (values : List Value) → Given
  Nothing : Given
  Bad : Given

-- no record gives nothing, one record a row where it fits the schema, and more than one are bad
abbrev pub of_records : List (Named SplType) → List (List (List ℕ)) → Given
of_records schema [] = Nothing
of_records schema (fields ∷ []) = option_map_or Row (tuple_of schema fields) Bad
of_records schema (fields ∷ more ∷ rest) = Bad

-- a line is read on its bytes alone, without a byte order mark at its front
abbrev pub line_gives : List (Named SplType) → List ℕ → Given
line_gives schema line = of_records schema (records default_config (strip_bom line))

-- A line of `len` bytes, and of `size` with its line feed, where `left` bytes of the limit remain. Of two faults the
-- one counts whose first byte too many stands first, and for the same byte it is LongRow.
abbrev pub too_long : ℕ → ℕ → ℕ → Option FaultKind
too_long len size left =
    if nat_lt 65536 len && not (nat_lt left 65536) then Some K.LongRow
    else if nat_lt left size then Some K.LongFile else None

abbrev pub source_fault : Setting → FaultKind → ℕ → Item
source_fault o kind line = I.Bad (record { op = o.op; kind = kind; line = line })

-- a line's item, and the stream after it
abbrev pub line_items : Setting → ℕ → Given → List Item → List Item
line_items o line (Row values) more = I.Tuple values ∷ more
line_items o line Nothing more = more
line_items o line Bad more = if o.strict then source_fault o K.BadRow line ∷ [] else more

-- the line's fault, or else its item, and the stream after it
abbrev pub checked_items : Setting → ℕ → Option FaultKind → List ℕ → List Item → List Item
checked_items o line fault bytes more =
    option_map_or (λ kind. source_fault o kind line ∷ []) fault (line_items o line (line_gives o.schema bytes) more)

-- a source's end: a window marker and the final marker
abbrev pub closing : List Item
closing = I.Window ∷ I.Final ∷ []

-- the last piece, which no line feed ends: a line where it isn't empty and the file ends there; where a read failed,
-- its bytes are dropped
abbrev pub last_items : Setting → Ending → ℕ → ℕ → List ℕ → List Item
last_items o End line left [] = closing
last_items o End line left (b ∷ bytes) =
    checked_items o line (too_long (length (b ∷ bytes)) (length (b ∷ bytes)) left) (b ∷ bytes) closing
last_items o Failed line left bytes =
    source_fault o (unwrap_or (too_long (length bytes) (length bytes) left) K.ReadFailed) line ∷ []

-- the items of the lines from this number on, where `left` bytes of the limit remain
abbrev pub items_from : Setting → Ending → ℕ → ℕ → List (List ℕ) → List Item
items_from o ending line left [] = []
items_from o ending line left (bytes ∷ []) = last_items o ending line left bytes
items_from o ending line left (bytes ∷ next ∷ rest) =
    checked_items o line (too_long (length bytes) (length bytes + 1) left) bytes
    (items_from o ending (line + 1) (left - (length bytes + 1)) (next ∷ rest))

-- A source's stream: the rows of its lines, which line feeds part, numbered from 1, as tuples, up to the first fault;
-- at the file's end a window marker and the final marker, and where a read failed that fault.
abbrev pub rows : Setting → List ℕ → Ending → List Item
rows o bytes ending = items_from o ending 1 o.limit (slice_split (λ b. b == 10) bytes)

abbrev pub item_text : Item → List ℕ
item_text (I.Tuple values) = row_text default_writer (map (λ v. level_field (out-Value v)) values)
item_text I.Window = []
item_text I.Final = []
item_text (I.Bad f) = []

-- the rows of a stream's tuples, one after another
abbrev pub text_of : List Item → List ℕ
text_of items = flat_map item_text items
