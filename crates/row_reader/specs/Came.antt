-- What came next at a place: the tuple that stands there, or an item that is none.
use Rattle.std.specs.Prelude.{◌≡◌, ⊤, Bool, false, List, Result, Ok, Err}
use Rattle.spl_value.specs.declared.item.Item.{Item}
use Rattle.spl_value.specs.declared.item.Item.TheVariants as I
use Rattle.spl_value.specs.declared.memory.NoMemory.{NoMemory}
use Rattle.spl_value.specs.declared.value.Value.{Value}
use Rattle.stream_model.specs.SourceFaults.{is_read_fault}
use Rattle.stream_model.specs.Stream.{is_tuple}
use Rattle.row_reader.specs.declared.came.Came.{Came}
use Rattle.row_reader.specs.declared.came.Came.TheVariants as C

-- the item, with what stands at the place
abbrev pub item_of : Came → List Value → Item
item_of C.Tuple values = I.Tuple values
item_of (C.Other item) values = item

-- a tuple stands at the place and nowhere else
abbrev pub IsPlaced : Came → Type 0
IsPlaced C.Tuple = ⊤
IsPlaced (C.Other item) = is_tuple item ≡ false

-- a read failed in the call
abbrev pub failed_came : Result Came NoMemory → Bool
failed_came (Ok C.Tuple) = false
failed_came (Ok (C.Other item)) = is_read_fault item
failed_came (Err e) = false
