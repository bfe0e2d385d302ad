-- Words for parts of the typing of expressions, each of which says what one function of the checks gives.
use Rattle.std.specs.Prelude.{ℕ, Bool, List, Option, Some, Ok}
use Rattle.spl_value.specs.declared.types.IntKind.{IntKind}
use Rattle.spl_value.specs.declared.types.Named.{Named}
use Rattle.spl_value.specs.declared.types.SplType.{SplType}
use Rattle.spl_value.specs.declared.types.SplType.TheVariants as S
use Rattle.spl_tree.specs.declared.expression.Placed.{Placed}
use Rattle.spl_tree.specs.declared.expression.Step.{Step}
use Rattle.spl_tree.specs.declared.expression.BinaryOperator.{BinaryOperator}
use Rattle.spl_tree.specs.declared.code.Code.{Code}
use Rattle.spl_tree.specs.declared.code.Code.TheVariants as C
use Rattle.spl_tree.specs.declared.code.Slot.{Slot}
use Rattle.spl_tree.specs.declared.code.Slot.TheVariants as L
use Rattle.spl_tree.specs.declared.code.Selector.{Selector}
use Rattle.spl_tree.specs.declared.code.Selector.TheVariants as K
use Rattle.spl_tree.specs.declared.code.BinaryCode.{BinaryCode}
use Rattle.spl_tree.specs.declared.code.BinaryCode.TheVariants as D
use Rattle.spl_tree.specs.declared.code.IntegerOperator.{IntegerOperator}
use Rattle.spl_tree.specs.declared.code.OrderOperator.{OrderOperator}
use Rattle.spl_tree.specs.declared.code.CallName.{CallName}
use Rattle.std.specs.Option.{option_map, option_map_or, option_or}
use Rattle.language_model.specs.declared.scope.Scope.{Scope}
use Rattle.language_model.specs.declared.scope.Typed.{Typed}
use Rattle.language_model.specs.Scopes.{At, Nothing, meant, function_of}
use Rattle.language_model.specs.Typing.{Found, Part, Wanted, Wants, binary_typed, built_in_typed, function_typed, level_element, level_pair, level_schema, mismatch, of_port, typed, unknown, wants}

-- ---- names

abbrev pub dollar_typed : ℕ → List ℕ → Option (Found Typed) → Found Typed
dollar_typed at name dollar = option_map_or (λ found. found) dollar (unknown at name)

-- ---- literals

abbrev pub wants_list : Wanted → Wants SplType
wants_list = wants level_element

abbrev pub wants_map : Wanted → Wants (SplType × SplType)
wants_map = wants level_pair

abbrev pub wants_tuple : Wanted → Wants (List (Named SplType))
wants_tuple = wants level_schema

-- ---- what is taken of a value

abbrev pub member_typed : ℕ → List ℕ → Option (At (Named SplType)) → Found (Selector (Code Slot) × SplType)
member_typed at name attribute = option_map_or (λ a. Ok (K.Member a.place, a.what.kind)) attribute (unknown at name)

-- an attribute of a port that is named
abbrev pub port_attribute : ℕ → ℕ → List ℕ → Option (At (Named SplType)) → Found Typed
port_attribute port at name attribute = option_map_or (λ a. Ok (typed a.what.kind (C.Name (L.Attribute port a.place)))) attribute (unknown at name)

-- of a base that is a name, or isn't one
abbrev pub of_base : Option (List ℕ) → Placed Part → Scope → List (Step (Placed Part)) → Found Typed
of_base name base scope steps = of_port (option_map_or (meant scope) name Nothing) base scope steps

-- ---- operators

abbrev pub on_integers : IntKind → Option IntegerOperator → Option (BinaryCode × SplType)
on_integers k operator = option_map (λ o. (D.Integers o k, S.Int k)) operator

abbrev pub ordering_of : Option OrderOperator → Option (BinaryCode × SplType)
ordering_of operator = option_map (λ o. (D.Order o, S.Bool)) operator

-- a question for a marker, or an operator between two operands
abbrev pub binary_or_marker : Option (Code Slot) → Scope → BinaryOperator → Placed Part → Placed Part → Found Typed
binary_or_marker question scope op left right = option_map_or (λ code. Ok (typed S.Bool code)) question (binary_typed scope op left right)

-- what is wanted of the second branch of a conditional
abbrev pub branch_wanted : Wanted → SplType → Wanted
branch_wanted wanted t = option_or wanted (Some t)

-- ---- calls

abbrev pub value_given : ℕ → Option SplType → Code Slot → Found Typed
value_given at result code = option_map_or (λ t. Ok (typed t code)) result (mismatch at)

abbrev pub call_typed : ℕ → Scope → List ℕ → List (Placed Part) → Option CallName → Found Typed
call_typed at scope name es call =
    option_map_or (λ c. built_in_typed at scope c es) call (function_typed at scope name es (function_of scope name))
