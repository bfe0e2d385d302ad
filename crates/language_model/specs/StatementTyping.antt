-- The types of what statements have beside expressions: places that are changed, and calls whose value isn't used. Each
-- is a code of statements in its scope, or has a first refusal.
use Rattle.std.specs.Prelude.{◌==◌, ℕ, List, [], ◌∷◌, map, length, if◌then◌else◌, Option, Some, None, Ok}
use Rattle.std.specs.Option.{option_map_or}
use Rattle.spl_value.specs.declared.types.SplType.{SplType}
use Rattle.spl_value.specs.declared.types.SplType.TheViews.{out-SplType}
use Rattle.spl_tree.specs.Trees.{Expr}
use Rattle.spl_tree.specs.declared.body.Change.TheVariants as H
use Rattle.spl_tree.specs.declared.body.Place.{Place}
use Rattle.spl_tree.specs.declared.body.Statement.{Statement}
use Rattle.spl_tree.specs.declared.body.Statement.TheVariants as T
use Rattle.spl_tree.specs.declared.code.CallName.{CallName}
use Rattle.spl_tree.specs.declared.code.CallName.TheVariants as A
use Rattle.spl_tree.specs.declared.code.Code.{Code}
use Rattle.spl_tree.specs.declared.code.Code.TheOpen as O
use Rattle.spl_tree.specs.declared.code.Code.TheOpen.{Code-F}
use Rattle.spl_tree.specs.declared.code.Code.TheViews.{out-Code}
use Rattle.spl_tree.specs.declared.code.Slot.{Slot}
use Rattle.spl_tree.specs.declared.code.Slot.TheVariants as L
use Rattle.spl_tree.specs.declared.code.Selector.{Selector}
use Rattle.spl_tree.specs.declared.expression.BinaryOperator.{BinaryOperator}
use Rattle.spl_tree.specs.declared.expression.ExprKind.TheOpen as X
use Rattle.spl_tree.specs.declared.expression.ExprKind.TheOpen.{ExprKind-F}
use Rattle.spl_tree.specs.declared.expression.ExprKind.TheViews.{out-ExprKind}
use Rattle.spl_tree.specs.declared.expression.ExprKind.{ExprKind}
use Rattle.spl_tree.specs.declared.expression.Placed.{Placed}
use Rattle.language_model.specs.declared.scope.Scope.{Scope}
use Rattle.language_model.specs.declared.scope.Signature.{Signature}
use Rattle.language_model.specs.declared.scope.CheckError.TheVariants as E
use Rattle.language_model.specs.Readings.{root_of}
use Rattle.language_model.specs.Scopes.{At, function_of, unresolved_of}
use Rattle.language_model.specs.Typing.{Part, Found, after, as_wanted, refused, not_callable, wrong_call, parted, part_typed, if_mutable, changed_typed, level_changed, argument_count, arguments_typed, built_in_typed, call_of, level_operator, operands_typed, typing}

-- ---- places

-- a place and the type of what it holds
pub record TypedPlace : Type 0 where
  pub place : Place
  pub kind : SplType

-- the place that a code reads, where it is a variable or what is taken of one
abbrev pub level_variable : List (Selector (Code Slot)) → Code-F Slot (Code Slot) → Option Place
level_variable takings (O.Name (L.Variable i)) = Some (record { variable = i; takings = takings })
level_variable takings _ = None

abbrev pub level_place : Code-F Slot (Code Slot) → Option Place
level_place (O.Select base takings) = level_variable takings (out-Code Slot base)
level_place code = level_variable [] code

abbrev pub place_given : ℕ → SplType → Option Place → Found TypedPlace
place_given at t found =
    option_map_or (λ place. Ok (record { place = place; kind = t })) found (refused E.NotMutable at None)

-- an expression that reads a place: a variable that may be changed, or what is taken of one in turn
abbrev pub place_typing : Scope → Expr → Found TypedPlace
place_typing scope e =
    after (typing scope e None) (λ t. if_mutable e.at scope (parted e) (root_of e.what)
    (place_given e.at t.kind (level_place (out-Code Slot t.code))))

-- ---- assignments

-- the value of the right side is of the type of what the place holds
abbrev pub assignment_typing : Scope → Expr → Expr → Found Statement
assignment_typing scope e right =
    after (place_typing scope e) (λ x. after (typing scope right (Some x.kind)) (λ y.
    Ok (T.Change x.place (H.Put y.code))))

-- `a op= b` is `a = a op b`, whose value is of the type of what the place holds
abbrev pub compound_typing : Scope → BinaryOperator → Expr → Expr → Found Statement
compound_typing scope op e right = after (place_typing scope e) (λ x. after (typing scope e None) (λ t.
    after (operands_typed scope t (parted e) (parted right) (level_operator op (out-SplType t.kind))) (λ y.
    after (as_wanted e.at (Some x.kind) y) (λ z. Ok (T.Change x.place (H.Put z.code))))))

-- ---- calls

-- what a call that changes a place is, by its other arguments
abbrev pub change_made : ℕ → CallName → Place → List (Code Slot) → Found Statement
change_made at A.AppendM place (x ∷ []) = Ok (T.Change place (H.Append x))
change_made at A.RemoveM place (x ∷ []) = Ok (T.Change place (H.Remove x))
change_made at A.ClearM place [] = Ok (T.Change place H.Clear)
change_made at call place xs = wrong_call at

abbrev pub change_typing : ℕ → Scope → CallName → List (Placed Part) → Found Statement
change_typing at scope call [] = wrong_call at
change_typing at scope call (e ∷ es) =
    after (part_typed e scope None) (λ x. after (changed_typed at scope e es (level_changed call (out-SplType x.kind)))
    (λ xs.
    after (place_given e.at x.kind (level_place (out-Code Slot x.code))) (λ p. change_made at call p.place xs)))

-- a call that the language has built in: one of those that change a place, or one that gives a value, which isn't used
abbrev pub built_in_statement : ℕ → Scope → CallName → List (Placed Part) → Found Statement
built_in_statement at scope A.AppendM es =
    if length es == argument_count A.AppendM then change_typing at scope A.AppendM es else wrong_call at
built_in_statement at scope A.RemoveM es =
    if length es == argument_count A.RemoveM then change_typing at scope A.RemoveM es else wrong_call at
built_in_statement at scope A.ClearM es =
    if length es == argument_count A.ClearM then change_typing at scope A.ClearM es else wrong_call at
built_in_statement at scope call es = after (built_in_typed at scope call es) (λ t. Ok (T.Evaluate t.code))

-- a call of a function, with a result or without
abbrev pub function_statement : ℕ → Scope → List ℕ → List (Placed Part) → Option (At Signature) → Found Statement
function_statement at scope name es None = not_callable at name (unresolved_of scope name)
function_statement at scope name es (Some f) =
    if length es == length f.what.parameters then after (arguments_typed scope f.what.parameters es)
    (λ xs. Ok (T.Call f.place xs)) else wrong_call at

abbrev pub level_call : ℕ → Scope → ExprKind-F ExprKind → Found Statement
level_call at scope (X.Call name es) =
    option_map_or (λ call. built_in_statement at scope call (map parted es)) (call_of name)
    (function_statement at scope name (map parted es) (function_of scope name))
level_call at scope _ = wrong_call at

-- a call as a statement
abbrev pub call_typing : Scope → Expr → Found Statement
call_typing scope e = level_call e.at scope (out-ExprKind e.what)
