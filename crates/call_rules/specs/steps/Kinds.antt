-- What types are on which operators and calls stand.
use Rattle.std.specs.Prelude.{Bool, true, false, Option, Some, None}
use Rattle.std.specs.Borrow.{Bor}
use Rattle.spl_value.specs.declared.types.IntKind.{IntKind}
use Rattle.spl_value.specs.declared.types.SplType.{SplType}
use Rattle.spl_value.specs.declared.types.SplType.TheOpen as T
use Rattle.spl_value.specs.declared.types.SplType.TheOpen.{SplType-F}
use Rattle.spl_tree.specs.declared.code.BinaryCode.{BinaryCode}
use Rattle.spl_tree.specs.declared.code.BinaryCode.TheVariants as D

abbrev pub integer_of : SplType-F SplType → Option IntKind
integer_of (T.Int k) = Some k
integer_of _ = None

-- its values have an order
abbrev pub has_order : SplType-F SplType → Bool
has_order (T.Int k) = true
has_order T.Text = true
has_order _ = false

-- what `in` is on a right operand of a type, and the type that the left one has to have
abbrev pub held_of : SplType-F SplType → Option (BinaryCode × SplType)
held_of (T.List t) = Some (D.InList, t)
held_of (T.Map k t) = Some (D.InMap, k)
held_of _ = None

abbrev pub held_copied : Option (BinaryCode × Bor SplType) → Option (BinaryCode × SplType)
held_copied None = None
held_copied (Some p) = Some (p.0, p.1.now)
