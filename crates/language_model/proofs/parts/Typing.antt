-- Words for parts of the typing of expressions, of which proofs speak.
use Rattle.std.specs.Prelude.{ℕ, List, ◌∷◌, Option, Some, None, Ok}
use Rattle.spl_value.specs.declared.types.Named.{Named}
use Rattle.spl_value.specs.declared.types.SplType.{SplType}
use Rattle.spl_tree.specs.declared.expression.Placed.{Placed}
use Rattle.spl_tree.specs.declared.expression.Field.{Field}
use Rattle.spl_tree.specs.declared.expression.PrefixOperator.{PrefixOperator}
use Rattle.spl_tree.specs.declared.code.Code.{Code}
use Rattle.spl_tree.specs.declared.code.Code.TheVariants as C
use Rattle.spl_tree.specs.declared.code.Slot.{Slot}
use Rattle.spl_tree.specs.declared.code.UnaryCode.{UnaryCode}
use Rattle.spl_tree.specs.declared.code.BuiltIn.{BuiltIn}
use Rattle.std.specs.Option.{option_map_or}
use Rattle.language_model.specs.declared.scope.Scope.{Scope}
use Rattle.language_model.specs.declared.scope.Typed.{Typed}
use Rattle.language_model.specs.After.{after}
use Rattle.language_model.specs.Scopes.{At}
use Rattle.language_model.specs.Typing.{Found, OnFirst, Part, arguments_typed, mismatch, part_typed, prefixes_typed, typed, wrong_call}

abbrev pub field_typed : Scope → List (Named SplType) → Field (Placed Part) → Option (At (Named SplType)) → Found (ℕ × Code Slot)
field_typed scope schema f attribute =
    option_map_or (λ a. after (part_typed f.value scope (Some a.what.kind)) (λ x. Ok (a.place, x.code))) attribute (mismatch f.value.at)

abbrev pub prefix_typed : ℕ → Option (UnaryCode × SplType) → Found (UnaryCode × SplType)
prefix_typed operand prefix = option_map_or (λ x. Ok x) prefix (mismatch operand)

abbrev pub unary_typed : Scope → List (Placed PrefixOperator) → Placed Part → Found Typed
unary_typed scope ps e = after (part_typed e scope None) (λ x. after (prefixes_typed ps e.at x.kind) (λ xs. Ok (typed xs.1 (C.Unary xs.0 x.code))))

abbrev pub first_typed : ℕ → Scope → Code Slot → List (Placed Part) → OnFirst → Found Typed
first_typed at scope x es first =
    option_map_or (λ on. after (arguments_typed scope on.2 es) (λ xs. Ok (typed on.1 (C.BuiltIn on.0 (x ∷ xs))))) first (wrong_call at)
