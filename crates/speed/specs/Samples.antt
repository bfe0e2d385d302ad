-- Conditions on a row of a price and a size, and the tuple of both.
use Rattle.std.specs.Prelude.{ℕ, ℤ, pos, false, List, [], ◌∷◌, None}
use Rattle.spl_value.specs.declared.value.Value.{Value}
use Rattle.spl_value.specs.declared.value.Value.TheVariants as V
use Rattle.spl_value.specs.declared.types.Named.{Named}
use Rattle.spl_value.specs.declared.types.SplType.{SplType}
use Rattle.spl_value.specs.declared.types.SplType.TheVariants as S
use Rattle.spl_value.specs.declared.types.IntKind.TheVariants as K
use Rattle.spl_tree.specs.declared.code.Code.{Code}
use Rattle.spl_tree.specs.declared.code.Code.TheVariants as C
use Rattle.spl_tree.specs.declared.code.BinaryCode.TheVariants as D
use Rattle.spl_tree.specs.declared.code.OrderOperator.TheVariants as O
use Rattle.spl_tree.specs.declared.code.Slot.{Slot}
use Rattle.spl_tree.specs.declared.code.Slot.TheVariants as L
use Rattle.language_model.specs.declared.env.Env.{Env}
use Rattle.language_model.specs.declared.scope.Scope.{Scope}

abbrev pub attribute : ℕ → Code Slot
attribute i = C.Name (L.Attribute 0 i)

abbrev pub above : ℕ → ℤ → Code Slot
above i n = C.Binary (D.Order O.Greater) (attribute i) (C.Literal (V.Int n))

abbrev pub both_above : Code Slot
both_above = C.Binary D.And (above 0 (pos 500)) (above 1 (pos 2))

abbrev pub swapped : Code Slot
swapped = C.Tuple ((0, attribute 1) ∷ (1, attribute 0) ∷ [])

abbrev pub numbers : List Value
numbers = V.Int (pos 700) ∷ V.Int (pos 3) ∷ []

abbrev pub row : Env
row = record { inputs = numbers ∷ []; vars = []; punct = None }

abbrev pub price : Named SplType
price = record { name = 112 ∷ []; kind = S.Int K.I64 }

abbrev pub size : Named SplType
size = record { name = 115 ∷ []; kind = S.Int K.I64 }

abbrev pub pair : List (Named SplType)
pair = price ∷ size ∷ []

abbrev pub scope : Scope
scope = record { vars = []; ports = record { name = []; schema = pair } ∷ []; functions = []; unresolved = []; dollars = []; punct = false }
