-- A function and a call of it, a fault and a name without a value, for examples.
use Rattle.std.specs.Prelude.{ℕ, pos, [], ◌∷◌, Some}
use Rattle.spl_value.specs.declared.types.IntKind.TheVariants.{I32}
use Rattle.spl_value.specs.declared.types.SplType.TheVariants as T
use Rattle.spl_value.specs.declared.value.Value.{Value}
use Rattle.spl_value.specs.declared.value.Value.TheVariants as V
use Rattle.spl_tree.specs.declared.body.Function.{Function}
use Rattle.spl_tree.specs.declared.body.Statement.TheVariants as B
use Rattle.spl_tree.specs.declared.code.Code.{Code}
use Rattle.spl_tree.specs.declared.code.Code.TheVariants as C
use Rattle.spl_tree.specs.declared.code.BinaryCode.TheVariants as D
use Rattle.spl_tree.specs.declared.code.IntegerOperator.TheVariants.{Divide}
use Rattle.spl_tree.specs.declared.code.Slot.{Slot}
use Rattle.spl_tree.specs.declared.code.Slot.TheVariants as L
use Rattle.language_model.specs.Evaluation.{World, world_of}
use Rattle.language_model.specs.Functions.{function_env}

abbrev pub number : ℕ → Value
number n = V.Int (pos n)

-- int32 f(int32 x) { return x; }
abbrev pub identity : Function
identity = record { parameters = T.Int I32 ∷ []; result = Some (T.Int I32); body = B.Return (Some (C.Name (L.Variable 0))) ∷ [] }

-- f(7)
abbrev pub call_of_seven : Code Slot
call_of_seven = C.Call 0 (C.Literal (number 7) ∷ [])

-- 1 / 0
abbrev pub by_zero : Code Slot
by_zero = C.Binary (D.Integers Divide I32) (C.Literal (number 1)) (C.Literal (number 0))

-- where no name has a value
abbrev pub nowhere : World Slot
nowhere = world_of (function_env [])
