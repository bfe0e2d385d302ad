-- A step of reading a source, which gives an item or none.
use Rattle.std.specs.Prelude.{◌≡◌, ◌<◌, ◌≤◌, ◌+◌, ◌-◌, ◌++◌, ⊤, ℕ, Bool, false, List, [], length, take, drop, Option, Some, None, Result, Ok, Err}
use Rattle.spl_value.specs.declared.item.Item.{Item}
use Rattle.spl_value.specs.declared.memory.NoMemory.{NoMemory}
use Rattle.spl_value.specs.declared.value.Value.{Value}
use Rattle.feed_pour.specs.declared.outside.Failed.{Failed}
use Rattle.spl_value.specs.Numbered.{closes}
use Rattle.row_reader.specs.declared.came.Came.{Came}
use Rattle.row_reader.specs.declared.rows.Rows.{Rows}
use Rattle.row_reader.specs.declared.rows.Stage.TheVariants as S
use Rattle.row_reader.specs.Came.{IsPlaced, failed_came, item_of}
use Rattle.row_reader.specs.Reading.{Gives, FitsSetting, is_over, most_left, setting_of}

-- how many bytes are held
abbrev pub held_size : Rows → ℕ
held_size r = length r.carry.items + (r.filled - r.at)

-- what falls with each step: bytes that may still be read count once, and once more until they are given
abbrev pub work : Rows → ℕ
work r = ((r.left + r.left) + 16386) - held_size r

-- what an item leaves to come, and what no item leaves
abbrev pub Stays : Option (List Item) → Option (List Item) → Type 0
Stays None after = ⊤
Stays (Some items) after = after ≡ Some items

abbrev pub Moves : Option (List Item) → Option Item → Option (List Item) → Type 0
Moves coming (Some item) after = Gives coming item after
Moves coming None after = Stays coming after

-- a step that gives no item
pub record GaveNone (a b : Rows) : Type 0 where
  pub setting : setting_of b ≡ setting_of a
  pub reading : b.stage ≡ S.Reading
  pub work : work b < work a
  pub left : b.left ≤ a.left

-- a step that gives one
pub record GaveItem (a b : Rows) (item : Item) : Type 0 where
  pub setting : setting_of b ≡ setting_of a
  pub over : is_over b ≡ closes item
  pub fewer : most_left b < most_left a
  pub has : FitsSetting (setting_of a) item

abbrev pub Stepped : Rows → Rows → Option Item → Type 0
Stepped a b (Some item) = GaveItem a b item
Stepped a b None = GaveNone a b

-- the item that a step gives, with what stands at the place
abbrev pub item_in : Option Came → List Value → Option Item
item_in None values = None
item_in (Some came) values = Some (item_of came values)

abbrev pub placed_in : Option Came → Type 0
placed_in None = ⊤
placed_in (Some came) = IsPlaced came

-- a read failed in the step
abbrev pub failed_step : Result (Option Came) NoMemory → Bool
failed_step (Ok None) = false
failed_step (Ok (Some came)) = failed_came (Ok came)
failed_step (Err e) = false

-- ---- the parts of a step

-- the line that is ended i bytes further on was read, n bytes of it were held, and what comes after it is left
pub record IsBehind (r r2 : Rows) (n i : ℕ) : Type 0 where
  pub setting : setting_of r2 ≡ setting_of r
  pub stage : r2.stage ≡ r.stage
  pub line : r2.line ≡ r.line + 1
  pub left : r2.left ≡ r.left - (n + 1)
  pub carry : r2.carry.items ≡ []
  pub piece : r2.piece.items ≡ r.piece.items
  pub at : r2.at ≡ r.at + i + 1
  pub filled : r2.filled ≡ r.filled

-- the bytes that are held are kept apart from the piece
pub record IsKept (r r2 : Rows) : Type 0 where
  pub setting : setting_of r2 ≡ setting_of r
  pub stage : r2.stage ≡ r.stage
  pub line : r2.line ≡ r.line
  pub left : r2.left ≡ r.left
  pub carry : r2.carry.items ≡ r.carry.items ++ take (r.filled - r.at) (drop r.at r.piece.items)
  pub filled : r2.filled ≡ 0

-- a read placed n bytes in the piece
pub record IsRead (r r2 : Rows) (n : ℕ) : Type 0 where
  pub setting : setting_of r2 ≡ setting_of r
  pub stage : r2.stage ≡ r.stage
  pub line : r2.line ≡ r.line
  pub left : r2.left ≡ r.left
  pub carry : r2.carry.items ≡ r.carry.items
  pub at : r2.at ≡ 0
  pub filled : r2.filled ≡ n

-- how many bytes a read placed
abbrev pub placed : Result ℕ Failed → ℕ
placed (Ok n) = n
placed (Err e) = 0

-- the last line was read
pub record IsLast (r r2 : Rows) : Type 0 where
  pub setting : setting_of r2 ≡ setting_of r
  pub stage : r2.stage ≡ r.stage
  pub left : r2.left ≡ r.left

-- the markers are to come
pub record IsEnd (r r2 : Rows) : Type 0 where
  pub setting : setting_of r2 ≡ setting_of r
  pub stage : r2.stage ≡ S.Ended

-- nothing is to come
pub record IsStop (r r2 : Rows) : Type 0 where
  pub setting : setting_of r2 ≡ setting_of r
  pub stage : r2.stage ≡ S.Done

-- the final marker is to come
pub record IsMark (r r2 : Rows) : Type 0 where
  pub setting : setting_of r2 ≡ setting_of r
  pub stage : r2.stage ≡ S.Marked
