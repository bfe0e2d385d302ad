-- The faults in a source's stream.
use Rattle.std.specs.Prelude.{◌≡◌, ⊤, ℕ, Bool, true, false}
use Rattle.spl_value.specs.declared.item.Item.{Item}
use Rattle.spl_value.specs.declared.item.Item.TheVariants as I
use Rattle.spl_value.specs.declared.item.FaultKind.{FaultKind}
use Rattle.spl_value.specs.declared.item.FaultKind.TheVariants as K

abbrev pub is_read_failed : FaultKind → Bool
is_read_failed K.ReadFailed = true
is_read_failed _ = false

-- the fault of a read that failed
abbrev pub is_read_fault : Item → Bool
is_read_fault (I.Tuple values) = false
is_read_fault I.Window = false
is_read_fault I.Final = false
is_read_fault (I.Bad fault) = is_read_failed fault.kind

-- a fault names the operator
abbrev pub NamesOperator : ℕ → Item → Type 0
NamesOperator op (I.Tuple values) = ⊤
NamesOperator op I.Window = ⊤
NamesOperator op I.Final = ⊤
NamesOperator op (I.Bad fault) = fault.op ≡ op
