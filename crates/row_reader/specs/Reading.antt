-- What a source is yet to give: the items of the bytes that were read and not given, of those that its feed has left, and of its end.
use Rattle.std.specs.Prelude.{◌≡◌, ◌+◌, ◌-◌, ◌++◌, ⊤, ℕ, Bool, true, false, IsTrue, List, [], ◌∷◌, map, take, drop, Option, Some, None, option_map, Result, Ok, Err}
use Rattle.std.specs.List.{list_any}
use Rattle.spl_value.specs.Script.{Script}
use Rattle.spl_value.specs.Values.{fits}
use Rattle.spl_value.specs.declared.item.Item.{Item}
use Rattle.spl_value.specs.declared.item.Item.TheVariants as I
use Rattle.spl_value.specs.declared.memory.NoMemory.{NoMemory}
use Rattle.spl_value.specs.declared.types.Named.{Named}
use Rattle.spl_value.specs.declared.types.SplType.{SplType}
use Rattle.spl_value.specs.declared.types.SplType.TheVariants as T
use Rattle.spl_value.specs.declared.value.Value.TheVariants as V
use Rattle.stream_model.specs.Rows.{Setting, closing, items_from}
use Rattle.stream_model.specs.SourceFaults.{is_read_fault}
use Rattle.stream_model.specs.parts.Rows.{pieces}
use Rattle.row_reader.specs.declared.rows.Rows.{Rows}
use Rattle.row_reader.specs.declared.rows.Stage.{Stage}
use Rattle.row_reader.specs.declared.rows.Stage.TheVariants as S
use Rattle.row_reader.specs.Columns.{attributes, type_of}

-- whose rows a source reads: the operator's number, the schema, whether a bad row is a fault, and the most bytes of a file
abbrev pub setting : ℕ → List (Named SplType) → Bool → ℕ → Setting
setting op schema strict limit = record { op = op; schema = schema; strict = strict; limit = limit }

-- what a source was made with, its attributes without their names
abbrev pub setting_of : Rows → Setting
setting_of r = setting r.op (attributes r.lines.columns.items) r.strict r.limit

-- a source was made with this setting
pub record IsFor (r : Rows) (o : Setting) : Type 0 where
  pub op : o.op ≡ r.op
  pub kinds : map (λ a. a.kind) o.schema ≡ map type_of r.lines.columns.items
  pub strict : o.strict ≡ r.strict
  pub limit : o.limit ≡ r.limit

-- the bytes that were read and not given
abbrev pub held : Rows → List ℕ
held r = r.carry.items ++ take (r.filled - r.at) (drop r.at r.piece.items)

-- the items of these bytes and of what the feed has left
abbrev pub unread : Rows → Script → List Item
unread r s = items_from (setting_of r) s.ending r.line r.left (pieces (held r ++ s.bytes))

abbrev pub by_stage : Stage → Option (List Item) → Option (List Item)
by_stage S.Reading items = items
by_stage S.Ended items = Some closing
by_stage S.Marked items = Some (I.Final ∷ [])
by_stage S.Done items = Some []

-- what a source is yet to give, where its feed tells what it has left, and after its feed's end
abbrev pub to_come : Rows → Option Script → Option (List Item)
to_come r script = by_stage r.stage (option_map (unread r) script)

-- the item is the first of what was to come, and the others are to come
abbrev pub Gives : Option (List Item) → Item → Option (List Item) → Type 0
Gives None item after = ⊤
Gives (Some items) item None = ⊥
Gives (Some items) item (Some rest) = items ≡ item ∷ rest

-- a final marker or a fault was given
abbrev pub is_done : Stage → Bool
is_done S.Reading = false
is_done S.Ended = false
is_done S.Marked = false
is_done S.Done = true

abbrev pub is_over : Rows → Bool
is_over r = is_done r.stage

-- the most items that are yet to come: each row takes a byte of the limit at least
abbrev pub most_at : Stage → ℕ → ℕ
most_at S.Reading left = left + 2
most_at S.Ended left = 2
most_at S.Marked left = 1
most_at S.Done left = 0

abbrev pub most_left : Rows → ℕ
most_left r = most_at r.stage r.left

-- a tuple has values of the attributes, and a fault names the operator
abbrev pub FitsSetting : Setting → Item → Type 0
FitsSetting o (I.Tuple values) = IsTrue (fits (T.Tuple o.schema) (V.Tuple values))
FitsSetting o I.Window = ⊤
FitsSetting o I.Final = ⊤
FitsSetting o (I.Bad fault) = fault.op ≡ o.op

-- a read failed in the call
abbrev pub failed_next : Result Item NoMemory → Bool
failed_next (Ok item) = is_read_fault item
failed_next (Err e) = false

-- a read failed in the reading of a whole stream
abbrev pub failed_rows : Result (List Item) NoMemory → Bool
failed_rows (Ok items) = list_any is_read_fault items
failed_rows (Err e) = false
