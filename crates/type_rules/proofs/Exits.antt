-- The results of operators between two operands, by the results of the operands.
use Rattle.std.specs.Prelude.{◌≡◌, Option, Some, None}
use Rattle.std.proofs.Common.{refl}
use Rattle.spl_value.specs.declared.types.SplType.{SplType}
use Rattle.spl_value.specs.declared.types.SplType.TheViews.{out-SplType}
use Rattle.spl_tree.specs.declared.expression.Placed.{Placed}
use Rattle.spl_tree.specs.declared.expression.BinaryOperator.{BinaryOperator}
use Rattle.spl_tree.specs.declared.expression.BinaryOperator.TheVariants as B
use Rattle.spl_tree.specs.declared.code.BinaryCode.{BinaryCode}
use Rattle.language_model.specs.declared.scope.Scope.{Scope}
use Rattle.language_model.specs.declared.scope.Typed.{Typed}
use Rattle.language_model.specs.Typing.{Found, Part, part_typed, binary_typed, operands_typed, level_operator, after}
use Rattle.call_rules.specs.Operands.{left_or, operation_given, right_for, same_given}
use Rattle.type_rules.proofs.Steps.{after_each}

abbrev pub with_right : Scope → BinaryOperator → Placed Part → Placed Part → Typed → Found Typed
with_right scope op l r x = after (right_for l.at op x.kind) (λ w. after (part_typed r scope w) (λ y. operation_given l.at r.at x y op))

by_operator : (scope : Scope) (l r : Placed Part) (x : Typed) (o : Option (BinaryCode × SplType))
    → operands_typed scope x l r o ≡ after (left_or l.at x.kind o) (λ w. after (part_typed r scope w) (λ y. same_given l.at x y o))
by_operator scope l r x None = refl
by_operator scope l r x (Some op) = refl

pub binary_law : (scope : Scope) (op : BinaryOperator) (l r : Placed Part) → binary_typed scope op l r ≡ after (part_typed l scope None) (with_right scope op l r)
binary_law scope B.In l r = refl
binary_law scope op l r = after_each (part_typed l scope None) _ _ (λ x. by_operator scope l r x (level_operator op (out-SplType x.kind)))
