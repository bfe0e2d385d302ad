-- The types of expressions, and their code. An expression has a type and a code in a scope, under the type that its
-- place wants, where it wants one. Else it has a first refusal: its parts are looked at from left to right, the inner
-- ones first, and it itself after them. But before its parts are refused a list, a map or a tuple that isn't of the
-- wanted form, that is empty where no type is wanted, or that has two attributes of one name; a call of what isn't
-- known; and one with another number of arguments than the called one takes. And what can't be on a part of the type
-- that was found is refused before the next part: an operator other than `in` on its left operand, a built-in call on
-- its first argument, and a member or an index on what stands before it. Of the comparison of `currentPunct()` with a
-- marker, where one has come, no part is looked at.
use Rattle.std.specs.Prelude.{ℕ, suc, pos, nat_lt, Bool, true, false, ◌&&◌, not, List, [], ◌∷◌, length, if◌then◌else◌, codes, Option, Some, None, is_some, Result, Ok, Err, ◌==◌}
use Rattle.std.specs.List.{list_all, zip}
use Rattle.std.specs.Cmp.Lexicographic.{pointwise}
use Rattle.std.specs.Str.{bytes_eq}
use Rattle.spl_value.specs.declared.types.IntKind.TheVariants.{I32}
use Rattle.spl_value.specs.declared.types.Named.{Named}
use Rattle.spl_value.specs.declared.types.SplType.{SplType}
use Rattle.spl_value.specs.declared.types.SplType.TheVariants as S
use Rattle.spl_value.specs.declared.types.SplType.TheOpen as T
use Rattle.spl_value.specs.declared.types.SplType.TheOpen.{SplType-F}
use Rattle.spl_value.specs.declared.types.SplType.TheViews.{out-SplType}
use Rattle.spl_value.specs.declared.types.SplType.TheFolds.{fold-SplType}
use Rattle.spl_value.specs.declared.value.Value.TheVariants as V
use Rattle.spl_value.specs.Values.{top}
use Rattle.spl_tree.specs.declared.token.Number.{Number}
use Rattle.spl_tree.specs.declared.keyword.Keyword.TheVariants as W
use Rattle.spl_tree.specs.Words.{keyword_word}
use Rattle.spl_tree.specs.Trees.{Expr}
use Rattle.spl_tree.specs.declared.expression.Placed.{Placed}
use Rattle.spl_tree.specs.declared.expression.Field.{Field}
use Rattle.spl_tree.specs.declared.expression.Step.{Step}
use Rattle.spl_tree.specs.declared.expression.Step.TheVariants as N
use Rattle.spl_tree.specs.declared.expression.PrefixOperator.{PrefixOperator}
use Rattle.spl_tree.specs.declared.expression.PrefixOperator.TheVariants as P
use Rattle.spl_tree.specs.declared.expression.CastTarget.TheVariants as G
use Rattle.spl_tree.specs.declared.expression.BinaryOperator.{BinaryOperator}
use Rattle.spl_tree.specs.declared.expression.BinaryOperator.TheVariants as B
use Rattle.spl_tree.specs.declared.expression.ExprKind.{ExprKind}
use Rattle.spl_tree.specs.declared.expression.ExprKind.TheOpen as X
use Rattle.spl_tree.specs.declared.expression.ExprKind.TheOpen.{ExprKind-F}
use Rattle.spl_tree.specs.declared.expression.ExprKind.TheFolds.{para-ExprKind}
use Rattle.spl_tree.specs.declared.code.Code.{Code}
use Rattle.spl_tree.specs.declared.code.Code.TheVariants as C
use Rattle.spl_tree.specs.declared.code.Slot.{Slot}
use Rattle.spl_tree.specs.declared.code.Slot.TheVariants as L
use Rattle.spl_tree.specs.declared.code.Selector.{Selector}
use Rattle.spl_tree.specs.declared.code.Selector.TheVariants as K
use Rattle.spl_tree.specs.declared.code.UnaryCode.{UnaryCode}
use Rattle.spl_tree.specs.declared.code.UnaryCode.TheVariants as U
use Rattle.spl_tree.specs.declared.code.BinaryCode.{BinaryCode}
use Rattle.spl_tree.specs.declared.code.BinaryCode.TheVariants as D
use Rattle.spl_tree.specs.declared.code.IntegerOperator.{IntegerOperator}
use Rattle.spl_tree.specs.declared.code.IntegerOperator.TheVariants as I
use Rattle.spl_tree.specs.declared.code.OrderOperator.{OrderOperator}
use Rattle.spl_tree.specs.declared.code.OrderOperator.TheVariants as O
use Rattle.spl_tree.specs.declared.code.BuiltIn.{BuiltIn}
use Rattle.spl_tree.specs.declared.code.BuiltIn.TheVariants as Q
use Rattle.spl_tree.specs.declared.code.CallName.{CallName}
use Rattle.spl_tree.specs.declared.code.CallName.TheVariants as A
use Rattle.std.specs.Option.{option_map, option_map_or, option_or}
use Rattle.spl_tree.specs.declared.code.Marker.{Marker}
use Rattle.language_model.specs.declared.scope.Scope.{Scope}
use Rattle.language_model.specs.declared.scope.Signature.{Signature}
use Rattle.language_model.specs.declared.scope.Typed.{Typed}
use Rattle.language_model.specs.declared.scope.CheckError.{CheckError}
use Rattle.language_model.specs.declared.scope.CheckError.TheVariants as E
use Rattle.language_model.specs.declared.scope.CheckRefusal.{CheckRefusal}
pub use Rattle.language_model.specs.After.{after}
use Rattle.language_model.specs.After.{each}
use Rattle.language_model.specs.Readings.{asks_punct, name_of, named_marker, root_of}
use Rattle.language_model.specs.Scopes.{At, Meant, OfVariable, OfAttribute, OfPort, Nothing, meant, attribute_of, dollar_of, function_of, unresolved_of, variable_of}

-- ---- types, wanted types and refusals

abbrev pub level_same : {A B : Type 0} → (A → B → Bool) → SplType-F A → SplType-F B → Bool
level_same R (T.Int k) (T.Int l) = bytes_eq (keyword_word (W.Int k)) (keyword_word (W.Int l))
level_same R T.Bool T.Bool = true
level_same R T.Text T.Text = true
level_same R (T.List t) (T.List u) = R t u
level_same R (T.Map k t) (T.Map l u) = R k l && R t u
level_same R (T.Tuple xs) (T.Tuple ys) = pointwise (λ a b. bytes_eq a.name b.name && R a.kind b.kind) xs ys
level_same R _ _ = false

-- two types are the same. Tuple types are where names, types and order of their attributes are
abbrev pub same_types : SplType → SplType → Bool
same_types = fold-SplType (SplType → Bool) (λ t u. level_same (λ f w. f w) t (out-SplType u))

-- the type that a place wants, or none
abbrev pub Wanted : Type 0
Wanted = Option SplType

abbrev pub Found : Type 0 → Type 0
Found A = Result A CheckRefusal

abbrev pub refused : {A : Type 0} → CheckError → ℕ → Option (List ℕ) → Found A
refused error at name = Err (record { error = error; at = at; name = name })

abbrev pub unknown : {A : Type 0} → ℕ → List ℕ → Found A
unknown at name = refused E.Unknown at (Some name)

abbrev pub mismatch : {A : Type 0} → ℕ → Found A
mismatch at = refused E.Mismatch at None

abbrev pub wrong_call : {A : Type 0} → ℕ → Found A
wrong_call at = refused E.WrongCall at None

abbrev pub typed : SplType → Code Slot → Typed
typed kind code = record { kind = kind; code = code }

-- an expression at a place that has a type by itself: it has to be the wanted one
abbrev pub as_wanted : ℕ → Wanted → Typed → Found Typed
as_wanted at None t = Ok t
as_wanted at (Some u) t = if same_types t.kind u then Ok t else mismatch at

-- ---- expressions as parts of others

-- an expression inside another one: itself, and the type and code that it has at a place in a scope, under what is
-- wanted there
abbrev pub Part : Type 0
Part = ExprKind × (ℕ → Scope → Wanted → Found Typed)

abbrev pub part_typed : Placed Part → Scope → Wanted → Found Typed
part_typed e scope wanted = e.what.1 e.at scope wanted

-- ---- names

abbrev pub meant_typed : ℕ → List ℕ → Meant → Found Typed
meant_typed at name (OfVariable v) = Ok (typed v.what.kind (C.Name (L.Variable v.place)))
meant_typed at name (OfAttribute a) = Ok (typed a.kind (C.Name (L.Attribute a.port a.attribute)))
meant_typed at name (OfPort p) = Ok (typed (S.Tuple p.what.schema) (C.Name (L.Port p.place)))
meant_typed at name Nothing = unknown at name

-- ---- literals

-- a number, which has to be one of its type. Each that is read from text is
abbrev pub number_typed : ℕ → Number → Found Typed
number_typed at n =
    if nat_lt n.value (top n.kind) then Ok (typed (S.Int n.kind) (C.Literal (V.Int (pos n.value)))) else mismatch at

-- ---- literals that take the wanted type

-- what is wanted of a literal: nothing, something of its own form, or another type
pub data Wants (A : Type 0) : Type 0 where
  Anything : Wants A
  This : A → Wants A
  Another : Wants A

-- the form of a literal in the wanted type: the type of the elements of a list, those of the keys and values of a map,
-- and the attributes of a tuple
abbrev pub level_element : SplType-F SplType → Wants SplType
level_element (T.List t) = This t
level_element _ = Another

abbrev pub level_pair : SplType-F SplType → Wants (SplType × SplType)
level_pair (T.Map k t) = This (k, t)
level_pair _ = Another

abbrev pub level_schema : SplType-F SplType → Wants (List (Named SplType))
level_schema (T.Tuple schema) = This schema
level_schema _ = Another

abbrev pub wants : {A : Type 0} → (SplType-F SplType → Wants A) → Wanted → Wants A
wants level wanted = option_map_or (λ t. level (out-SplType t)) wanted Anything

-- elements that all have to be of one type
abbrev pub elements_typed : Scope → SplType → List (Placed Part) → Found (List (Code Slot))
elements_typed scope t es = each (λ e. part_typed e scope (Some t)) (λ x. x.code) es

-- where no type is wanted, that of the first one is wanted of the others
abbrev pub list_typed : ℕ → Scope → Wants SplType → List (Placed Part) → Found Typed
list_typed at scope Another es = mismatch at
list_typed at scope (This t) es = after (elements_typed scope t es) (λ xs. Ok (typed (S.List t) (C.List xs)))
list_typed at scope Anything [] = mismatch at
list_typed at scope Anything (e ∷ es) =
    after (part_typed e scope None) (λ x. after (elements_typed scope x.kind es) (λ xs.
    Ok (typed (S.List x.kind) (C.List (x.code ∷ xs)))))

abbrev pub entries_typed : Scope → SplType → SplType → List (Placed Part × Placed Part)
    → Found (List (Code Slot × Code Slot))
entries_typed scope k t [] = Ok []
entries_typed scope k t (e ∷ es) =
    after (part_typed e.0 scope (Some k)) (λ x. after (part_typed e.1 scope (Some t)) (λ y.
    after (entries_typed scope k t es) (λ xs. Ok ((x.code, y.code) ∷ xs))))

abbrev pub map_typed : ℕ → Scope → Wants (SplType × SplType) → List (Placed Part × Placed Part) → Found Typed
map_typed at scope Another es = mismatch at
map_typed at scope (This p) es = after (entries_typed scope p.0 p.1 es) (λ xs. Ok (typed (S.Map p.0 p.1) (C.Map xs)))
map_typed at scope Anything [] = mismatch at
map_typed at scope Anything (e ∷ es) =
    after (part_typed e.0 scope None) (λ x. after (part_typed e.1 scope None) (λ y.
    after (entries_typed scope x.kind y.kind es) (λ xs.
    Ok (typed (S.Map x.kind y.kind) (C.Map ((x.code, y.code) ∷ xs))))))

-- no two fields have one name
abbrev pub are_distinct : List (Field (Placed Part)) → Bool
are_distinct [] = true
are_distinct (f ∷ fs) = list_all (λ g. not (bytes_eq g.name.what f.name.what)) fs && are_distinct fs

-- each wanted attribute has one field, and no other has one; attributes have names of their own
abbrev pub gives_each : List (Named SplType) → List (Field (Placed Part)) → Bool
gives_each schema fs =
    are_distinct fs && list_all (λ f. is_some (attribute_of schema f.name.what)) fs && (length fs == length schema)

-- a field is of the type of the attribute of its name
abbrev pub fields_typed : Scope → List (Named SplType) → List (Field (Placed Part)) → Found (List (ℕ × Code Slot))
fields_typed scope schema fs =
    each (λ f. option_map_or (λ a. after (part_typed f.value scope (Some a.what.kind)) (λ x. Ok (a.place, x.code)))
    (attribute_of schema f.name.what) (mismatch f.value.at)) (λ x. x) fs

-- fields as they stand, from a place of the tuple on, with their types
abbrev pub own_fields : Scope → ℕ → List (Field (Placed Part)) → Found (List (Named SplType) × List (ℕ × Code Slot))
own_fields scope i [] = Ok ([], [])
own_fields scope i (f ∷ fs) =
    after (part_typed f.value scope None) (λ x. after (own_fields scope (suc i) fs) (λ xs.
    Ok (record { name = f.name.what; kind = x.kind } ∷ xs.0, (i, x.code) ∷ xs.1)))

abbrev pub tuple_typed : ℕ → Scope → Wants (List (Named SplType)) → List (Field (Placed Part)) → Found Typed
tuple_typed at scope Another fs = mismatch at
tuple_typed at scope (This schema) fs =
    if gives_each schema fs then after (fields_typed scope schema fs) (λ xs. Ok (typed (S.Tuple schema) (C.Tuple xs)))
    else mismatch at
tuple_typed at scope Anything fs =
    if are_distinct fs then after (own_fields scope 0 fs) (λ xs. Ok (typed (S.Tuple xs.0) (C.Tuple xs.1)))
    else mismatch at

-- ---- what is taken of a value

-- an index of any integer type
abbrev pub level_index : ℕ → Code Slot → SplType-F SplType → Found (Code Slot)
level_index at code (T.Int k) = Ok code
level_index at code _ = mismatch at

-- one step from a value of a type, whose expression begins at a place
abbrev pub level_step : ℕ → Scope → SplType-F SplType → Step (Placed Part) → Found (Selector (Code Slot) × SplType)
level_step base scope (T.Tuple schema) (N.Member m) =
    option_map_or (λ a. Ok (K.Member a.place, a.what.kind)) (attribute_of schema m.what) (unknown m.at m.what)
level_step base scope (T.List t) (N.Index e) =
    after (part_typed e scope None) (λ x. after (level_index e.at x.code (out-SplType x.kind)) (λ code.
    Ok (K.Element code, t)))
level_step base scope (T.Map k t) (N.Index e) = after (part_typed e scope (Some k)) (λ x. Ok (K.AtKey x.code, t))
level_step base scope _ _ = mismatch base

-- steps in turn, and the type at the end of them
abbrev pub steps_typed : ℕ → Scope → SplType → List (Step (Placed Part)) → Found (List (Selector (Code Slot)) × SplType)
steps_typed base scope t [] = Ok ([], t)
steps_typed base scope t (s ∷ ss) =
    after (level_step base scope (out-SplType t) s) (λ x.
    after (steps_typed base scope x.1 ss) (λ xs. Ok (x.0 ∷ xs.0, xs.1)))

-- what is taken of a code, where something is
abbrev pub selected : Code Slot → List (Selector (Code Slot)) → Code Slot
selected base [] = base
selected base (x ∷ xs) = C.Select base (x ∷ xs)

abbrev pub select_typed : ℕ → Scope → Typed → List (Step (Placed Part)) → Found Typed
select_typed base scope x steps =
    after (steps_typed base scope x.kind steps) (λ xs. Ok (typed xs.1 (selected x.code xs.0)))

-- of a base with this meaning; an attribute of a port that is named, `Port.attribute`, has the code of the attribute
abbrev pub of_port : Meant → Placed Part → Scope → List (Step (Placed Part)) → Found Typed
of_port (OfPort p) base scope (N.Member m ∷ steps) =
    after (option_map_or (λ a. Ok (typed a.what.kind (C.Name (L.Attribute p.place a.place))))
    (attribute_of p.what.schema m.what) (unknown m.at m.what))
    (λ x. select_typed base.at scope x steps)
of_port _ base scope steps = after (part_typed base scope None) (λ x. select_typed base.at scope x steps)

-- ---- operators in front of an operand, and casts

-- an operator on a type, with the type that it gives; none where it isn't one of that type
abbrev pub level_prefix : PrefixOperator → SplType-F SplType → Option (UnaryCode × SplType)
level_prefix P.Not T.Bool = Some (U.Not, S.Bool)
level_prefix P.Negate (T.Int k) = Some (U.Negate k, S.Int k)
level_prefix P.Complement (T.Int k) = Some (U.Complement k, S.Int k)
level_prefix (P.Cast (G.Int k)) (T.Int j) = Some (U.ToInteger k, S.Int k)
level_prefix (P.Cast G.Text) (T.Int j) = Some (U.ToText, S.Text)
level_prefix (P.Cast G.Text) T.Bool = Some (U.ToText, S.Text)
level_prefix _ _ = None

-- where prefixes and their operand begin
abbrev pub prefixes_at : List (Placed PrefixOperator) → ℕ → ℕ
prefixes_at [] operand = operand
prefixes_at (p ∷ ps) operand = p.at

-- prefixes, the outermost first, on a type
abbrev pub prefixes_typed : List (Placed PrefixOperator) → ℕ → SplType → Found (List UnaryCode × SplType)
prefixes_typed [] operand t = Ok ([], t)
prefixes_typed (p ∷ ps) operand t = after (prefixes_typed ps operand t) (λ xs.
    after (option_map_or (λ x. Ok x) (level_prefix p.what (out-SplType xs.1)) (mismatch (prefixes_at ps operand))) (λ x.
    Ok (x.0 ∷ xs.0, x.1)))

-- ---- operators between two operands

abbrev pub integer_operator : BinaryOperator → Option IntegerOperator
integer_operator B.Multiply = Some I.Multiply
integer_operator B.Divide = Some I.Divide
integer_operator B.Remainder = Some I.Remainder
integer_operator B.Add = Some I.Add
integer_operator B.Subtract = Some I.Subtract
integer_operator B.BitAnd = Some I.BitAnd
integer_operator B.BitXor = Some I.BitXor
integer_operator B.BitOr = Some I.BitOr
integer_operator _ = None

abbrev pub order_operator : BinaryOperator → Option OrderOperator
order_operator B.Less = Some O.Less
order_operator B.LessOrEqual = Some O.LessOrEqual
order_operator B.Greater = Some O.Greater
order_operator B.GreaterOrEqual = Some O.GreaterOrEqual
order_operator _ = None

-- the orders are on integers and texts
abbrev pub ordering : BinaryOperator → Option (BinaryCode × SplType)
ordering op = option_map (λ o. (D.Order o, S.Bool)) (order_operator op)

-- an operator whose operands are of one type: what it is on a left operand of a type, with the type that it gives
abbrev pub level_operator : BinaryOperator → SplType-F SplType → Option (BinaryCode × SplType)
level_operator B.Equal _ = Some (D.Equal, S.Bool)
level_operator B.NotEqual _ = Some (D.NotEqual, S.Bool)
level_operator B.And T.Bool = Some (D.And, S.Bool)
level_operator B.Or T.Bool = Some (D.Or, S.Bool)
level_operator B.Add T.Text = Some (D.Join, S.Text)
level_operator op (T.Int k) =
    option_or (option_map (λ o. (D.Integers o k, S.Int k)) (integer_operator op)) (ordering op)
level_operator op T.Text = ordering op
level_operator _ _ = None

abbrev pub operands_typed : Scope → Typed → Placed Part → Placed Part → Option (BinaryCode × SplType) → Found Typed
operands_typed scope x left right on =
    option_map_or (λ op. after (part_typed right scope (Some x.kind))
    (λ y. Ok (typed op.1 (C.Binary op.0 x.code y.code)))) on (mismatch left.at)

-- a value is looked for in a list of its type, or in a map with keys of its type
abbrev pub level_in : Typed → Code Slot → ℕ → SplType-F SplType → Found Typed
level_in x right at (T.List t) =
    if same_types x.kind t then Ok (typed S.Bool (C.Binary D.InList x.code right)) else mismatch at
level_in x right at (T.Map k t) =
    if same_types x.kind k then Ok (typed S.Bool (C.Binary D.InMap x.code right)) else mismatch at
level_in x right at _ = mismatch at

abbrev pub binary_typed : Scope → BinaryOperator → Placed Part → Placed Part → Found Typed
binary_typed scope B.In left right =
    after (part_typed left scope None) (λ x. after (part_typed right scope None) (λ y.
    level_in x y.code right.at (out-SplType y.kind)))
binary_typed scope op left right =
    after (part_typed left scope None) (λ x. operands_typed scope x left right (level_operator op (out-SplType x.kind)))

-- `currentPunct() == Sys.WindowMarker` and its like, where a marker has come
abbrev pub marker_asked : Bool → BinaryOperator → Option Marker → Option (Code Slot)
marker_asked true B.Equal (Some m) = Some (C.IsMarker m)
marker_asked true B.NotEqual (Some m) = Some (C.IsNotMarker m)
marker_asked _ _ _ = None

-- ---- the conditional

-- where no type is wanted, that of the first branch is wanted of the second
abbrev pub conditional_typed : Scope → Wanted → Placed Part → Placed Part → Placed Part → Found Typed
conditional_typed scope wanted c a b =
    after (part_typed c scope (Some S.Bool)) (λ x. after (part_typed a scope wanted) (λ y.
    after (part_typed b scope (option_or wanted (Some y.kind))) (λ z.
    Ok (typed y.kind (C.Conditional x.code y.code z.code)))))

-- ---- calls

-- arguments of these types; there are as many
abbrev pub arguments_typed : Scope → List SplType → List (Placed Part) → Found (List (Code Slot))
arguments_typed scope ts es = each (λ p. part_typed p.1 scope (Some p.0)) (λ x. x.code) (zip ts es)

-- no function of the scope has the name: it has no meaning, or there is one whose types are refused
abbrev pub not_callable : {A : Type 0} → ℕ → List ℕ → Option CheckRefusal → Found A
not_callable at name refusal = option_map_or (λ r. Err r) refusal (unknown at name)

-- a call of a function gives a value of its type, or nothing
abbrev pub function_typed : ℕ → Scope → List ℕ → List (Placed Part) → Option (At Signature) → Found Typed
function_typed at scope name es found = option_map_or (λ f. if length es == length f.what.parameters
    then after (arguments_typed scope f.what.parameters es) (λ xs.
    option_map_or (λ t. Ok (typed t (C.Call f.place xs))) f.what.result (mismatch at))
    else wrong_call at) found (not_callable at name (unresolved_of scope name))

-- what a table gives for a word, or `d` where the word isn't in it
abbrev pub looked_up : {A : Type 0} → A → List (List ℕ × A) → List ℕ → A
looked_up d [] word = d
looked_up d (x ∷ xs) word = if bytes_eq word x.0 then x.1 else looked_up d xs word

-- the call that has this name
abbrev pub call_of : List ℕ → Option CallName
call_of name =
    looked_up None ((codes "length", Some A.Length) ∷ (codes "size", Some A.Size)
    ∷ (codes "has", Some A.Has) ∷ (codes "appendM", Some A.AppendM)
    ∷ (codes "removeM", Some A.RemoveM) ∷ (codes "clearM", Some A.ClearM)
    ∷ (codes "abs", Some A.Abs) ∷ (codes "min", Some A.Min)
    ∷ (codes "max", Some A.Max) ∷ (codes "substring", Some A.Substring)
    ∷ (codes "currentPunct", Some A.CurrentPunct) ∷ []) name

abbrev pub int32 : SplType
int32 = S.Int I32

-- a call on a first argument of a class of types: what it is on this one, its type, and the types that the others have
-- to have; none where the type isn't of the class
abbrev pub OnFirst : Type 0
OnFirst = Option (BuiltIn × SplType × List SplType)

abbrev pub level_first : CallName → SplType → SplType-F SplType → OnFirst
level_first A.Size t (T.List e) = Some (Q.Size, int32, [])
level_first A.Size t (T.Map k e) = Some (Q.Size, int32, [])
level_first A.Has t (T.Map k e) = Some (Q.Has, S.Bool, k ∷ [])
level_first A.Abs t (T.Int k) = Some (Q.Abs k, t, [])
level_first A.Min t (T.Int k) = Some (Q.Min, t, t ∷ [])
level_first A.Min t T.Text = Some (Q.Min, t, t ∷ [])
level_first A.Max t (T.Int k) = Some (Q.Max, t, t ∷ [])
level_first A.Max t T.Text = Some (Q.Max, t, t ∷ [])
level_first _ t _ = None

-- a call that changes its first argument: the types that the others have to have
abbrev pub level_changed : CallName → SplType-F SplType → Option (List SplType)
level_changed A.AppendM (T.List e) = Some (e ∷ [])
level_changed A.RemoveM (T.Map k e) = Some (k ∷ [])
level_changed A.ClearM (T.List e) = Some []
level_changed A.ClearM (T.Map k e) = Some []
level_changed _ _ = None

abbrev pub is_mutable : Scope → List ℕ → Bool
is_mutable scope name = option_map_or (λ v. v.what.mutable) (variable_of scope name) false

-- the argument is a place, and its variable may be changed
abbrev pub if_mutable : {A : Type 0} → ℕ → Scope → Placed Part → Option (List ℕ) → Found A → Found A
if_mutable at scope e root found =
    option_map_or (λ name. if is_mutable scope name then found else refused E.NotMutable e.at None) root (wrong_call at)

abbrev pub changed_typed : ℕ → Scope → Placed Part → List (Placed Part) → Option (List SplType)
    → Found (List (Code Slot))
changed_typed at scope e es wanted =
    option_map_or (λ types. if_mutable at scope e (root_of e.what.0) (arguments_typed scope types es)) wanted
    (wrong_call at)

-- how many arguments a call has
abbrev pub argument_count : CallName → ℕ
argument_count A.Length = 1
argument_count A.Size = 1
argument_count A.Has = 2
argument_count A.AppendM = 2
argument_count A.RemoveM = 2
argument_count A.ClearM = 1
argument_count A.Abs = 1
argument_count A.Min = 2
argument_count A.Max = 2
argument_count A.Substring = 3
argument_count A.CurrentPunct = 0

abbrev pub fixed_typed : Scope → BuiltIn → SplType → List SplType → List (Placed Part) → Found Typed
fixed_typed scope call t types es = after (arguments_typed scope types es) (λ xs. Ok (typed t (C.BuiltIn call xs)))

-- a call that changes a place gives no value
abbrev pub no_value : ℕ → Found (List (Code Slot)) → Found Typed
no_value at found = after found (λ xs. mismatch at)

abbrev pub arguments_of : ℕ → Scope → CallName → List (Placed Part) → Found Typed
arguments_of at scope A.Length es = fixed_typed scope Q.Length int32 (S.Text ∷ []) es
arguments_of at scope A.Substring es = fixed_typed scope Q.Substring S.Text (S.Text ∷ int32 ∷ int32 ∷ []) es
arguments_of at scope A.CurrentPunct es = wrong_call at
arguments_of at scope A.AppendM (e ∷ es) = no_value at
    (after (part_typed e scope None) (λ x. changed_typed at scope e es (level_changed A.AppendM (out-SplType x.kind))))
arguments_of at scope A.RemoveM (e ∷ es) = no_value at
    (after (part_typed e scope None) (λ x. changed_typed at scope e es (level_changed A.RemoveM (out-SplType x.kind))))
arguments_of at scope A.ClearM (e ∷ es) = no_value at
    (after (part_typed e scope None) (λ x. changed_typed at scope e es (level_changed A.ClearM (out-SplType x.kind))))
arguments_of at scope call (e ∷ es) =
    after (part_typed e scope None) (λ x. option_map_or (λ on.
    after (arguments_typed scope on.2 es) (λ xs. Ok (typed on.1 (C.BuiltIn on.0 (x.code ∷ xs)))))
    (level_first call x.kind (out-SplType x.kind)) (wrong_call at))
arguments_of at scope call [] = wrong_call at

abbrev pub built_in_typed : ℕ → Scope → CallName → List (Placed Part) → Found Typed
built_in_typed at scope call es =
    if length es == argument_count call then arguments_of at scope call es else wrong_call at

-- ---- expressions

-- an expression by its parts, each of which stands before its own type and code
abbrev pub level_typed : ExprKind-F Part → ℕ → Scope → Wanted → Found Typed
level_typed (X.Name name) at scope wanted = after (meant_typed at name (meant scope name)) (as_wanted at wanted)
level_typed (X.Dollar name) at scope wanted =
    after (option_map_or (λ found. found) (dollar_of scope.dollars name) (unknown at name)) (as_wanted at wanted)
level_typed (X.Number n) at scope wanted = after (number_typed at n) (as_wanted at wanted)
level_typed (X.Text bytes) at scope wanted = as_wanted at wanted (typed S.Text (C.Literal (V.Text bytes)))
level_typed (X.Bool b) at scope wanted = as_wanted at wanted (typed S.Bool (C.Literal (V.Bool b)))
level_typed (X.Group e) at scope wanted = part_typed e scope wanted
level_typed (X.List es) at scope wanted = list_typed at scope (wants level_element wanted) es
level_typed (X.Map es) at scope wanted = map_typed at scope (wants level_pair wanted) es
level_typed (X.Tuple fs) at scope wanted = tuple_typed at scope (wants level_schema wanted) fs
level_typed (X.Call name es) at scope wanted =
    after (option_map_or (λ call. built_in_typed at scope call es) (call_of name)
    (function_typed at scope name es (function_of scope name)))
    (as_wanted at wanted)
level_typed (X.Select base steps) at scope wanted =
    after (of_port (option_map_or (meant scope) (name_of base.what.0) Nothing) base scope steps) (as_wanted at wanted)
level_typed (X.Unary ps e) at scope wanted =
    after (after (part_typed e scope None) (λ x. after (prefixes_typed ps e.at x.kind) (λ xs.
    Ok (typed xs.1 (C.Unary xs.0 x.code))))) (as_wanted at wanted)
level_typed (X.Binary op left right) at scope wanted =
    after (option_map_or (λ code. Ok (typed S.Bool code))
    (marker_asked (scope.punct && asks_punct left.what.0) op (named_marker right.what.0))
    (binary_typed scope op left right)) (as_wanted at wanted)
level_typed (X.Conditional c a b) at scope wanted = conditional_typed scope wanted c a b

-- an expression inside another one, as its part
abbrev pub parted : Expr → Placed Part
parted e = record { at = e.at; what = (e.what, para-ExprKind _ level_typed e.what) }

-- the type and the code of an expression in a scope, under the type that its place wants, or its first refusal
abbrev pub typing : Scope → Expr → Wanted → Found Typed
typing scope e wanted = part_typed (parted e) scope wanted
