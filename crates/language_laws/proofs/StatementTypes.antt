-- Assignments and calls whose parts have types fit as statements.
use Rattle.std.specs.Prelude.{◌≡◌, ◌==◌, ℕ, suc, List, [], ◌∷◌, length, map, Option, Some, None, Ok, if◌then◌else◌}
use Rattle.std.specs.List.{AllByRecursion}
use Rattle.std.proofs.Common.{refl, sym, ap, subst, ◌∙◌, arith}
use Rattle.std.proofs.lemmas.Bool.{eqb-true}
use Rattle.spl_value.specs.declared.types.SplType.{SplType}
use Rattle.spl_value.specs.declared.types.SplType.TheVariants as S
use Rattle.spl_value.specs.declared.types.SplType.TheOpen as T
use Rattle.spl_value.specs.declared.types.SplType.TheOpen.{SplType-F}
use Rattle.spl_value.specs.declared.types.SplType.TheViews.{out-SplType}
use Rattle.spl_tree.specs.Trees.{Expr}
use Rattle.spl_tree.specs.declared.body.Change.TheVariants as H
use Rattle.spl_tree.specs.declared.body.Place.{Place}
use Rattle.spl_tree.specs.declared.body.Statement.TheVariants as Y
use Rattle.spl_tree.specs.declared.code.BuiltIn.{BuiltIn}
use Rattle.spl_tree.specs.declared.code.BuiltIn.TheVariants as Q
use Rattle.spl_tree.specs.declared.code.CallName.{CallName}
use Rattle.spl_tree.specs.declared.code.CallName.TheVariants as A
use Rattle.spl_tree.specs.declared.code.Code.{Code}
use Rattle.spl_tree.specs.declared.code.Code.TheVariants as C
use Rattle.spl_tree.specs.declared.code.Code.TheViews.{out-Code}
use Rattle.spl_tree.specs.declared.code.Slot.{Slot}
use Rattle.spl_tree.specs.declared.expression.BinaryOperator.{BinaryOperator}
use Rattle.spl_tree.specs.declared.expression.ExprKind.{ExprKind}
use Rattle.spl_tree.specs.declared.expression.ExprKind.TheOpen as X
use Rattle.spl_tree.specs.declared.expression.ExprKind.TheOpen.{ExprKind-F}
use Rattle.spl_tree.specs.declared.expression.ExprKind.TheViews.{out-ExprKind}
use Rattle.spl_tree.specs.declared.expression.Placed.{Placed}
use Rattle.language_model.specs.declared.scope.Scope.{Scope}
use Rattle.language_model.specs.declared.scope.Signature.{Signature}
use Rattle.language_model.specs.declared.scope.Typed.{Typed}
use Rattle.language_model.specs.BodyFits as G
use Rattle.language_model.specs.BodyFits.{PlaceFits}
use Rattle.language_model.specs.CodeFits as F
use Rattle.language_model.specs.CodeFits.{CodeFits, ArgumentsFit}
use Rattle.language_model.specs.FitLaws.{DollarsFit}
use Rattle.language_model.specs.Readings.{root_of}
use Rattle.language_model.specs.Scopes.{At, function_of, unresolved_of}
use Rattle.language_model.specs.Typing.{Found, after, as_wanted, same_types, mismatch, wrong_call, Part, part_typed, OnFirst, level_first, fixed_typed, no_value, level_operator, operands_typed, arguments_typed, int32, level_changed, changed_typed, argument_count, arguments_of, built_in_typed, call_of, typing}
use Rattle.language_model.proofs.parts.Typing.{first_typed}
use Rattle.language_model.specs.TypingLaws.{parted}
use Rattle.language_model.specs.StatementTyping.{level_place, place_given, place_typing, assignment_typing, compound_typing, change_made, change_typing, built_in_statement, function_statement, level_call, call_typing}
use Rattle.language_model.specs.parts.StatementTyping.{call_statement}
use Rattle.language_laws.specs.PlaceLaws.{FitsAnywhere, AssignmentTypeLaw, CompoundTypeLaw, CallTypeLaw}
use Rattle.language_model.proofs.SameTypes.{equal_from_same}
use Rattle.language_model.proofs.Standing.{Bears, function_there}
use Rattle.language_model.proofs.Wanting.{gives_both, gives_if, gives_no_call, Some_thing, gives_some, rolled, part_of}
use Rattle.language_laws.proofs.Fitting.{Fits, FitsAt, Good, good, all_good, good_any, good_at, operator_fits, operands_fit, arguments_fit, built_in_fits}
use Rattle.language_laws.proofs.PlaceTyping.{MayChange, gives_if_mutable, Rests, part_rests, FitsPlace, given_fits, place_fits}
use Rattle.language_model.proofs.FoundAnswers.{Gives, gives_after, gives_from, gives_on}

-- ---- assignments

put_fits : (scope : Scope) (place : Place) (x : Code Slot) (t : SplType) → PlaceFits scope place t → CodeFits scope x t → FitsAnywhere scope (Y.Change place (H.Put x))
put_fits scope place x t f h purpose l = G.change l scope place (H.Put x) t f (G.puts x t h)

assignment_fits : (scope : Scope) → DollarsFit scope.dollars → (e right : Expr) → Gives (FitsAnywhere scope) (assignment_typing scope e right)
assignment_fits scope fine e right =
    gives_after (λ p. PlaceFits scope p.place p.kind) (FitsAnywhere scope) (place_typing scope e) _ (place_fits scope fine e) (λ x fit.
    gives_after (FitsAt scope x.kind) (FitsAnywhere scope) (typing scope right (Some x.kind)) _ (good_at scope (part_of right) (good scope fine right) x.kind) (λ y h.
    put_fits scope x.place y.code x.kind fit h))

pub assignment_type_law : AssignmentTypeLaw
assignment_type_law scope e right x fine found = gives_from (FitsAnywhere scope) (assignment_typing scope e right) x (assignment_fits scope fine e right) found

as_wanted_at : (at : ℕ) (scope : Scope) (u : SplType) (t : Typed) → Fits scope t → Gives (FitsAt scope u) (as_wanted at (Some u) t)
as_wanted_at at scope u t h =
    gives_if (FitsAt scope u) (same_types t.kind u) (Ok t) (mismatch at) (λ same. subst (CodeFits scope t.code) (equal_from_same t.kind u same) h) tt

compound_fits : (scope : Scope) → DollarsFit scope.dollars → (op : BinaryOperator) (e right : Expr) → Gives (FitsAnywhere scope) (compound_typing scope op e right)
compound_fits scope fine op e right =
    gives_after (λ p. PlaceFits scope p.place p.kind) (FitsAnywhere scope) (place_typing scope e) _ (place_fits scope fine e) (λ x fit.
    gives_after (Fits scope) (FitsAnywhere scope) (typing scope e None) _ (good_any scope (part_of e) (good scope fine e) None) (λ t g.
    gives_after (Fits scope) (FitsAnywhere scope) (operands_typed scope t (parted e) (parted right) (level_operator op (out-SplType t.kind))) _
    (operands_fit scope t (part_of e) (part_of right) (level_operator op (out-SplType t.kind)) g (good scope fine right) (operator_fits op t.kind (out-SplType t.kind) refl)) (λ y h.
    gives_after (FitsAt scope x.kind) (FitsAnywhere scope) (as_wanted e.at (Some x.kind) y) _ (as_wanted_at e.at scope x.kind y h) (λ z i.
    put_fits scope x.place z.code x.kind fit i))))

pub compound_type_law : CompoundTypeLaw
compound_type_law scope op e right x fine found = gives_from (FitsAnywhere scope) (compound_typing scope op e right) x (compound_fits scope fine op e right) found

-- ---- calls that change a place

abbrev types_of : Option (List SplType) → List SplType
types_of None = []
types_of (Some types) = types

-- how many arguments there are after the place
changed_count : (call : CallName) (y : SplType-F SplType) (types : List SplType) → level_changed call y ≡ Some types → argument_count call ≡ suc (length types)
changed_count A.AppendM (T.List u) types e = ap (λ o. suc (length (types_of o))) e
changed_count A.RemoveM (T.Map k u) types e = ap (λ o. suc (length (types_of o))) e
changed_count A.ClearM (T.List u) types e = ap (λ o. suc (length (types_of o))) e
changed_count A.ClearM (T.Map k u) types e = ap (λ o. suc (length (types_of o))) e
changed_count _ _ types e = absurd cc

-- the place may be changed, and the arguments after it are of the types that the call has on it
record Changing (scope : Scope) (root : Option (List ℕ)) (call : CallName) (y : SplType-F SplType) (xs : List (Code Slot)) : Type 0 where
  types : List SplType
  is : level_changed call y ≡ Some types
  fit : ArgumentsFit scope xs types
  may : MayChange scope root

changing : (at : ℕ) (scope : Scope) (e : Placed Part) (es : List (Placed Part)) (call : CallName) (y : SplType-F SplType) (o : Option (List SplType)) → level_changed call y ≡ o
    → length (e ∷ es) ≡ argument_count call → AllByRecursion (Good scope) es → Gives (Changing scope (root_of e.what.0) call y) (changed_typed at scope e es o)
changing at scope e es call y None is long h = tt
changing at scope e es call y (Some types) is long h =
    let count : argument_count call ≡ suc (length types) = changed_count call y types is in
    let both : length (e ∷ es) ≡ suc (length types) = long ∙ count in
    gives_if_mutable (Changing scope (root_of e.what.0) call y) at scope e (root_of e.what.0) (arguments_typed scope types es) (λ may.
    gives_on (λ xs. ArgumentsFit scope xs types) (Changing scope (root_of e.what.0) call y) (arguments_typed scope types es)
    (arguments_fit scope types es (omega (arith, both)) h) (λ xs fit. record { types = types; is = is; fit = fit; may = may }))

append_fits : (at : ℕ) (scope : Scope) (place : Place) (t : SplType) (xs : List (Code Slot)) → PlaceFits scope place (S.List t) → ArgumentsFit scope xs (t ∷ [])
    → Gives (FitsAnywhere scope) (change_made at A.AppendM place xs)
append_fits at scope place t (x ∷ []) f (F.argument _ _ _ _ h rest) = λ purpose l. G.change l scope place (H.Append x) (S.List t) f (G.appends x t h)
append_fits at scope place t _ f h = tt

remove_fits : (at : ℕ) (scope : Scope) (place : Place) (k t : SplType) (xs : List (Code Slot)) → PlaceFits scope place (S.Map k t) → ArgumentsFit scope xs (k ∷ [])
    → Gives (FitsAnywhere scope) (change_made at A.RemoveM place xs)
remove_fits at scope place k t (x ∷ []) f (F.argument _ _ _ _ h rest) = λ purpose l. G.change l scope place (H.Remove x) (S.Map k t) f (G.removes x k t h)
remove_fits at scope place k t _ f h = tt

clear_fits : (at : ℕ) (scope : Scope) (place : Place) (t : SplType) (xs : List (Code Slot)) → PlaceFits scope place t → G.ChangeFits scope H.Clear t
    → Gives (FitsAnywhere scope) (change_made at A.ClearM place xs)
clear_fits at scope place t [] f h = λ purpose l. G.change l scope place H.Clear t f h
clear_fits at scope place t (x ∷ xs) f h = tt

change_made_fits : (at : ℕ) (scope : Scope) (call : CallName) (place : Place) (t : SplType) (y : SplType-F SplType) (types : List SplType) (xs : List (Code Slot)) → out-SplType t ≡ y
    → level_changed call y ≡ Some types → ArgumentsFit scope xs types → PlaceFits scope place t → Gives (FitsAnywhere scope) (change_made at call place xs)
change_made_fits at scope A.AppendM place t (T.List u) types xs e is fit f =
    append_fits at scope place u xs (subst (PlaceFits scope place) (rolled t (T.List u) (S.List u) e (S.rolls-List u)) f) (subst (ArgumentsFit scope xs) (sym (ap types_of is)) fit)
change_made_fits at scope A.RemoveM place t (T.Map k u) types xs e is fit f =
    remove_fits at scope place k u xs (subst (PlaceFits scope place) (rolled t (T.Map k u) (S.Map k u) e (S.rolls-Map k u)) f) (subst (ArgumentsFit scope xs) (sym (ap types_of is)) fit)
change_made_fits at scope A.ClearM place t (T.List u) types xs e is fit f =
    clear_fits at scope place (S.List u) xs (subst (PlaceFits scope place) (rolled t (T.List u) (S.List u) e (S.rolls-List u)) f) (G.clears_list u)
change_made_fits at scope A.ClearM place t (T.Map k u) types xs e is fit f =
    clear_fits at scope place (S.Map k u) xs (subst (PlaceFits scope place) (rolled t (T.Map k u) (S.Map k u) e (S.rolls-Map k u)) f) (G.clears_map k u)
change_made_fits at scope _ place t _ types xs e is fit f = absurd cc

change_fits : (at : ℕ) (scope : Scope) → DollarsFit scope.dollars → (call : CallName) (e : Expr) (es : List Expr) → length (map parted (e ∷ es)) ≡ argument_count call
    → Gives (FitsAnywhere scope) (change_typing at scope call (map parted (e ∷ es)))
change_fits at scope fine call e es long =
    let root = root_of e.what in
    let others = map parted es in
    gives_after (Rests scope root) (FitsAnywhere scope) (part_typed (parted e) scope None) _ (part_rests e scope fine) (λ x rests.
    gives_after (Changing scope root call (out-SplType x.kind)) (FitsAnywhere scope) (changed_typed at scope (parted e) others (level_changed call (out-SplType x.kind))) _
    (changing at scope (parted e) others call (out-SplType x.kind) (level_changed call (out-SplType x.kind)) refl long (all_good scope fine es)) (λ xs c.
    gives_after (FitsPlace scope x.kind) (FitsAnywhere scope) (place_given e.at x.kind (level_place (out-Code Slot x.code))) _ (given_fits e.at scope root x rests.1 c.may rests.0) (λ p fit.
    change_made_fits at scope call p.place x.kind (out-SplType x.kind) c.types xs refl c.is c.fit fit)))

change_or_wrong : (at : ℕ) (scope : Scope) → DollarsFit scope.dollars → (call : CallName) (es : List Expr) → length (map parted es) ≡ argument_count call
    → Gives (FitsAnywhere scope) (change_typing at scope call (map parted es))
change_or_wrong at scope fine call [] long = tt
change_or_wrong at scope fine call (e ∷ es) long = change_fits at scope fine call e es long

counted_fits : (at : ℕ) (scope : Scope) → DollarsFit scope.dollars → (call : CallName) (es : List Expr)
    → Gives (FitsAnywhere scope) (if length (map parted es) == argument_count call then change_typing at scope call (map parted es) else wrong_call at)
counted_fits at scope fine call es =
    gives_if (FitsAnywhere scope) (length (map parted es) == argument_count call) _ _ (λ same.
    change_or_wrong at scope fine call es (eqb-true (length (map parted es)) (argument_count call) same)) tt

-- ---- calls that give a value

-- the code is that of a call that the language has built in
abbrev pub IsBuiltIn : Typed → Type 0
IsBuiltIn t = (f : BuiltIn) × (xs : List (Code Slot)) × (t.code ≡ C.BuiltIn f xs)

fixed_is : (scope : Scope) (f : BuiltIn) (t : SplType) (ts : List SplType) (es : List (Placed Part)) → Gives IsBuiltIn (fixed_typed scope f t ts es)
fixed_is scope f t ts es = gives_after Some_thing IsBuiltIn (arguments_typed scope ts es) _ (gives_some (arguments_typed scope ts es)) (λ xs s. (f, xs, refl))

first_is : (at : ℕ) (scope : Scope) (x : Code Slot) (es : List (Placed Part)) (o : OnFirst) → Gives IsBuiltIn (first_typed at scope x es o)
first_is at scope x es None = tt
first_is at scope x es (Some on) =
    gives_after Some_thing IsBuiltIn (arguments_typed scope on.2 es) _ (gives_some (arguments_typed scope on.2 es)) (λ xs s. (on.0, x ∷ xs, refl))

on_argument_is : (at : ℕ) (scope : Scope) (call : CallName) (e : Placed Part) (es : List (Placed Part))
    → Gives IsBuiltIn (after (part_typed e scope None) (λ x. first_typed at scope x.code es (level_first call x.kind (out-SplType x.kind))))
on_argument_is at scope call e es =
    gives_after Some_thing IsBuiltIn (part_typed e scope None) _ (gives_some (part_typed e scope None)) (λ x s. first_is at scope x.code es (level_first call x.kind (out-SplType x.kind)))

no_value_is : (at : ℕ) (found : Found (List (Code Slot))) → Gives IsBuiltIn (no_value at found)
no_value_is at found = gives_after Some_thing IsBuiltIn found (λ xs. mismatch at) (gives_some found) (λ xs s. tt)

arguments_are : (at : ℕ) (scope : Scope) (call : CallName) (es : List (Placed Part)) → Gives IsBuiltIn (arguments_of at scope call es)
arguments_are at scope A.Length es = fixed_is scope Q.Length int32 (S.Text ∷ []) es
arguments_are at scope A.Substring es = fixed_is scope Q.Substring S.Text (S.Text ∷ int32 ∷ int32 ∷ []) es
arguments_are at scope A.CurrentPunct es = tt
arguments_are at scope A.AppendM (e ∷ es) = no_value_is at _
arguments_are at scope A.RemoveM (e ∷ es) = no_value_is at _
arguments_are at scope A.ClearM (e ∷ es) = no_value_is at _
arguments_are at scope A.Size (e ∷ es) = on_argument_is at scope A.Size e es
arguments_are at scope A.Has (e ∷ es) = on_argument_is at scope A.Has e es
arguments_are at scope A.Abs (e ∷ es) = on_argument_is at scope A.Abs e es
arguments_are at scope A.Min (e ∷ es) = on_argument_is at scope A.Min e es
arguments_are at scope A.Max (e ∷ es) = on_argument_is at scope A.Max e es
arguments_are at scope _ [] = tt

pub built_in_is : (at : ℕ) (scope : Scope) (call : CallName) (es : List (Placed Part)) → Gives IsBuiltIn (built_in_typed at scope call es)
built_in_is at scope call es = gives_if IsBuiltIn (length es == argument_count call) _ _ (λ same. arguments_are at scope call es) tt

evaluate_fits : (scope : Scope) (t : Typed) → Fits scope t → IsBuiltIn t → FitsAnywhere scope (Y.Evaluate t.code)
evaluate_fits scope t fit is =
    subst (λ x. CodeFits scope x t.kind → FitsAnywhere scope (Y.Evaluate x)) (sym is.2) (λ f purpose l. G.evaluate l scope is.0 is.1 t.kind f) fit

value_fits : (at : ℕ) (scope : Scope) (call : CallName) (es : List (Placed Part)) → AllByRecursion (Good scope) es
    → Gives (FitsAnywhere scope) (after (built_in_typed at scope call es) (λ t. Ok (Y.Evaluate t.code)))
value_fits at scope call es h =
    gives_after (λ t. Fits scope t × IsBuiltIn t) (FitsAnywhere scope) (built_in_typed at scope call es) _
    (gives_both (Fits scope) IsBuiltIn (built_in_typed at scope call es) (built_in_fits at scope call es h) (built_in_is at scope call es)) (λ t both.
    evaluate_fits scope t both.0 both.1)

built_in_statement_fits : (at : ℕ) (scope : Scope) → DollarsFit scope.dollars → (call : CallName) (es : List Expr)
    → Gives (FitsAnywhere scope) (built_in_statement at scope call (map parted es))
built_in_statement_fits at scope fine A.AppendM es = counted_fits at scope fine A.AppendM es
built_in_statement_fits at scope fine A.RemoveM es = counted_fits at scope fine A.RemoveM es
built_in_statement_fits at scope fine A.ClearM es = counted_fits at scope fine A.ClearM es
built_in_statement_fits at scope fine call es = value_fits at scope call (map parted es) (all_good scope fine es)

-- ---- calls of functions

function_statement_fits : (at : ℕ) (scope : Scope) (name : List ℕ) (es : List (Placed Part)) (o : Option (At Signature)) → Bears (λ f. f.name) scope.functions name o
    → AllByRecursion (Good scope) es → Gives (FitsAnywhere scope) (function_statement at scope name es o)
function_statement_fits at scope name es None h g = gives_no_call (FitsAnywhere scope) at name (unresolved_of scope name)
function_statement_fits at scope name es (Some f) h g =
    gives_if (FitsAnywhere scope) (length es == length f.what.parameters) _ _ (λ same.
    gives_after (λ xs. ArgumentsFit scope xs f.what.parameters) (FitsAnywhere scope) (arguments_typed scope f.what.parameters es) _
    (arguments_fit scope f.what.parameters es (eqb-true (length es) (length f.what.parameters) same) g)
    (λ xs i purpose l. G.call l scope f.place xs f.what h.0 i)) tt

call_statement_fits : (at : ℕ) (scope : Scope) → DollarsFit scope.dollars → (name : List ℕ) (es : List Expr) (o : Option CallName)
    → Gives (FitsAnywhere scope) (call_statement at scope name (map parted es) o)
call_statement_fits at scope fine name es (Some call) = built_in_statement_fits at scope fine call es
call_statement_fits at scope fine name es None =
    function_statement_fits at scope name (map parted es) (function_of scope name) (function_there scope name) (all_good scope fine es)

level_call_fits : (at : ℕ) (scope : Scope) → DollarsFit scope.dollars → (x : ExprKind-F ExprKind) → Gives (FitsAnywhere scope) (level_call at scope x)
level_call_fits at scope fine (X.Call name es) = call_statement_fits at scope fine name es (call_of name)
level_call_fits at scope fine _ = tt

pub call_type_law : CallTypeLaw
call_type_law scope e x fine found = gives_from (FitsAnywhere scope) (call_typing scope e) x (level_call_fits e.at scope fine (out-ExprKind e.what)) found
