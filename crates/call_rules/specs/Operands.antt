-- The results of operators between two operands, operand by operand.
use Rattle.std.specs.Prelude.{ℕ, Option, Some, None, Ok}
use Rattle.spl_value.specs.declared.types.SplType.{SplType}
use Rattle.spl_value.specs.declared.types.SplType.TheViews.{out-SplType}
use Rattle.spl_tree.specs.declared.code.BinaryCode.{BinaryCode}
use Rattle.spl_tree.specs.declared.code.Code.TheVariants as C
use Rattle.spl_tree.specs.declared.expression.BinaryOperator.{BinaryOperator}
use Rattle.spl_tree.specs.declared.expression.BinaryOperator.TheVariants as B
use Rattle.language_model.specs.declared.scope.Typed.{Typed}
use Rattle.language_model.specs.Typing.{Found, level_in, level_operator, mismatch, typed}

-- the type that is wanted of the right operand, by that of the left one at a place
abbrev pub left_or : ℕ → SplType → Option (BinaryCode × SplType) → Found (Option SplType)
left_or at t None = mismatch at
left_or at t (Some op) = Ok (Some t)

abbrev pub right_for : ℕ → BinaryOperator → SplType → Found (Option SplType)
right_for at B.In t = Ok None
right_for at op t = left_or at t (level_operator op (out-SplType t))

-- operands of one type
abbrev pub same_given : ℕ → Typed → Typed → Option (BinaryCode × SplType) → Found Typed
same_given at x y None = mismatch at
same_given at x y (Some op) = Ok (typed op.1 (C.Binary op.0 x.code y.code))

abbrev pub operation_given : ℕ → ℕ → Typed → Typed → BinaryOperator → Found Typed
operation_given left right x y B.In = level_in x y.code right (out-SplType y.kind)
operation_given left right x y op = same_given left x y (level_operator op (out-SplType x.kind))
