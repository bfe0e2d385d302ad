-- A call that has a value may stand as a statement.
use Rattle.std.specs.Prelude.{◌≡◌, ◌==◌, ℕ, Bool, true, false, List, [], ◌∷◌, length, map, Option, Some, None, Ok, Err, if◌then◌else◌}
use Rattle.std.proofs.Common.{refl, sym, subst, ◌∙◌}
use Rattle.spl_value.specs.declared.types.SplType.{SplType}
use Rattle.spl_tree.specs.declared.body.Statement.{Statement}
use Rattle.spl_tree.specs.declared.body.Statement.TheVariants as Y
use Rattle.spl_tree.specs.declared.code.CallName.{CallName}
use Rattle.spl_tree.specs.declared.code.CallName.TheVariants as A
use Rattle.spl_tree.specs.declared.code.Code.{Code}
use Rattle.spl_tree.specs.declared.code.Code.TheVariants as C
use Rattle.spl_tree.specs.declared.code.Slot.{Slot}
use Rattle.spl_tree.specs.declared.expression.Placed.{Placed}
use Rattle.language_model.specs.declared.scope.Scope.{Scope}
use Rattle.language_model.specs.declared.scope.Signature.{Signature}
use Rattle.language_model.specs.declared.scope.Typed.{Typed}
use Rattle.language_model.specs.Scopes.{At, function_of, unresolved_of}
use Rattle.language_model.specs.Typing.{Found, after, as_wanted, mismatch, wrong_call, Part, arguments_typed, function_typed, no_value, argument_count, arguments_of, built_in_typed, call_of}
use Rattle.language_model.specs.parts.Typing.{value_given, call_typed}
use Rattle.language_model.specs.TypingLaws.{parted}
use Rattle.language_model.proofs.TypingLaws as W
use Rattle.language_model.specs.StatementTyping.{built_in_statement, function_statement}
use Rattle.language_model.specs.parts.StatementTyping.{call_statement}
use Rattle.language_laws.specs.PlaceLaws as P
use Rattle.language_laws.specs.PlaceLaws.{IsCallOf, ValueCallLaw}
use Rattle.language_model.proofs.Wanting.{gives_if, gives_no_call, Some_thing, gives_some}
use Rattle.language_laws.proofs.StatementTypes.{IsBuiltIn, built_in_is}
use Rattle.language_laws.proofs.ChangingCalls.{called_is}
use Rattle.language_model.proofs.FoundAnswers.{Gives, gives_after, gives_from}

-- where the call has a value, the statement is that call
abbrev May : Found Typed → Found Statement → Type 0
May r s = Gives (λ t. (x : Statement) × (s ≡ Ok x) × IsCallOf t.code x) r

may_after : {A : Type 0} (r : Found A) (f : A → Found Typed) (g : A → Found Statement) → ((x : A) → May (f x) (g x)) → May (after r f) (after r g)
may_after (Ok x) f g h = h x
may_after (Err refusal) f g h = tt

-- ---- calls that the language has built in

may_evaluate : (r : Found Typed) → Gives IsBuiltIn r → May r (after r (λ t. Ok (Y.Evaluate t.code)))
may_evaluate (Ok t) is = (Y.Evaluate t.code, refl, subst (λ x. IsCallOf x (Y.Evaluate x)) (sym is.2) (P.built_in is.0 is.1))
may_evaluate (Err refusal) is = tt

-- a call that changes a place has no value
no_value_may : (at : ℕ) (found : Found (List (Code Slot))) (s : Found Statement) → May (no_value at found) s
no_value_may at found s = gives_after Some_thing _ found (λ xs. mismatch at) (gives_some found) (λ xs h. tt)

changing_may : (at : ℕ) (scope : Scope) (call : CallName) (es : List (Placed Part)) (s : Found Statement) → May (arguments_of at scope call es) s
    → May (built_in_typed at scope call es) s
changing_may at scope call es s h = gives_if _ (length es == argument_count call) (arguments_of at scope call es) (wrong_call at) (λ same. h) tt

built_in_may : (at : ℕ) (scope : Scope) (call : CallName) (es : List (Placed Part)) → May (built_in_typed at scope call es) (built_in_statement at scope call es)
built_in_may at scope A.AppendM [] = changing_may at scope A.AppendM [] (built_in_statement at scope A.AppendM []) tt
built_in_may at scope A.AppendM (e ∷ es) = changing_may at scope A.AppendM (e ∷ es) (built_in_statement at scope A.AppendM (e ∷ es)) (no_value_may at _ _)
built_in_may at scope A.RemoveM [] = changing_may at scope A.RemoveM [] (built_in_statement at scope A.RemoveM []) tt
built_in_may at scope A.RemoveM (e ∷ es) = changing_may at scope A.RemoveM (e ∷ es) (built_in_statement at scope A.RemoveM (e ∷ es)) (no_value_may at _ _)
built_in_may at scope A.ClearM [] = changing_may at scope A.ClearM [] (built_in_statement at scope A.ClearM []) tt
built_in_may at scope A.ClearM (e ∷ es) = changing_may at scope A.ClearM (e ∷ es) (built_in_statement at scope A.ClearM (e ∷ es)) (no_value_may at _ _)
built_in_may at scope call es = may_evaluate (built_in_typed at scope call es) (built_in_is at scope call es)

-- ---- calls of functions

value_may : (at i : ℕ) (xs : List (Code Slot)) (result : Option SplType) → May (value_given at result (C.Call i xs)) (Ok (Y.Call i xs))
value_may at i xs None = tt
value_may at i xs (Some t) = (Y.Call i xs, refl, P.function i xs)

counted_may : (at : ℕ) (b : Bool) (r : Found Typed) (s : Found Statement) → May r s → May (if b then r else wrong_call at) (if b then s else wrong_call at)
counted_may at true r s h = h
counted_may at false r s h = tt

function_may : (at : ℕ) (scope : Scope) (name : List ℕ) (es : List (Placed Part)) (o : Option (At Signature)) → May (function_typed at scope name es o) (function_statement at scope name es o)
function_may at scope name es None = gives_no_call _ at name (unresolved_of scope name)
function_may at scope name es (Some f) =
    counted_may at (length es == length f.what.parameters) _ _
    (may_after (arguments_typed scope f.what.parameters es) _ _ (λ xs. value_may at f.place xs f.what.result))

call_may : (at : ℕ) (scope : Scope) (name : List ℕ) (es : List (Placed Part)) (o : Option CallName) → May (call_typed at scope name es o) (call_statement at scope name es o)
call_may at scope name es (Some call) = built_in_may at scope call es
call_may at scope name es None = function_may at scope name es (function_of scope name)

-- no type is wanted of a statement
as_it_is : (at : ℕ) (r : Found Typed) → after r (as_wanted at None) ≡ r
as_it_is at (Ok t) = refl
as_it_is at (Err refusal) = refl

pub value_call_law : ValueCallLaw
value_call_law scope at name es t found =
    let is : call_typed at scope name (map parted es) (call_of name) ≡ Ok t =
    sym (W.call_typed name es at scope None ∙ as_it_is at (call_typed at scope name (map parted es) (call_of name))) ∙ found in
    let may = gives_from _ (call_typed at scope name (map parted es) (call_of name)) t (call_may at scope name (map parted es) (call_of name)) is in
    (may.0, called_is at scope name es ∙ may.1, may.2)
