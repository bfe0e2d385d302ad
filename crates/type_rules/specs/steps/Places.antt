-- What functions inside the crate answer on places and changes, against the definition.
use Rattle.std.specs.Prelude.{List, [], ◌∷◌, Option, Some, None, Ok}
use Rattle.spl_value.specs.declared.types.SplType.{SplType}
use Rattle.spl_tree.specs.declared.body.Place.{Place}
use Rattle.spl_value.specs.declared.types.SplType.TheViews.{out-SplType}
use Rattle.spl_tree.specs.Trees.{Expr}
use Rattle.spl_tree.specs.declared.expression.BinaryOperator.{BinaryOperator}
use Rattle.language_model.specs.declared.scope.Scope.{Scope}
use Rattle.language_model.specs.declared.scope.Typed.{Typed}
use Rattle.language_model.specs.Typing.{Found, after, as_wanted, level_operator, operands_typed, typing}
use Rattle.language_model.specs.TypingLaws.{parted}
use Rattle.language_model.specs.StatementTyping.{TypedPlace}

-- a place, and the type of what it holds
abbrev pub with_kind : Found TypedPlace → Found (Place × SplType)
with_kind found = after found (λ x. Ok (x.place, x.kind))

-- the value of `place op value`, which has to be of the type of what the place holds
abbrev pub compound_value : Scope → BinaryOperator → Expr → Expr → SplType → Found Typed
compound_value scope op e right held =
    after (typing scope e None) (λ t. after (operands_typed scope t (parted e) (parted right) (level_operator op (out-SplType t.kind))) (as_wanted e.at (Some held)))

-- the only one of a row, where there is one alone
abbrev pub only : {A : Type 0} → List A → Option A
only (x ∷ []) = Some x
only _ = None
