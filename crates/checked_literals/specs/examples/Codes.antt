-- Codes that several checked graphs have.
use Rattle.std.specs.Prelude.{ℕ, pos}
use Rattle.spl_value.specs.declared.value.Value.TheVariants as V
use Rattle.spl_tree.specs.declared.code.Code.{Code}
use Rattle.spl_tree.specs.declared.code.Code.TheVariants as C
use Rattle.spl_tree.specs.declared.code.Slot.{Slot}
use Rattle.spl_tree.specs.declared.code.Slot.TheVariants as L

abbrev pub number : ℕ → Code Slot
number n = C.Literal (V.Int (pos n))

abbrev pub variable : ℕ → Code Slot
variable place = C.Name (L.Variable place)

-- an attribute of the first port
abbrev pub attribute : ℕ → Code Slot
attribute place = C.Name (L.Attribute 0 place)
