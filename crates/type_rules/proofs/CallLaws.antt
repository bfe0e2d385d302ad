-- The results of calls, by the results of their arguments.
use Rattle.std.specs.Prelude.{◌≡◌, ℕ, Bool, true, false, if◌then◌else◌, List, [], ◌∷◌, length, ◌==◌, Option, Some, None, Ok}
use Rattle.std.proofs.Common.{refl, sym, ◌∙◌}
use Rattle.std.proofs.Math.Dec.{eqb-suc-zero}
use Rattle.spl_value.specs.declared.types.SplType.{SplType}
use Rattle.spl_value.specs.declared.types.SplType.TheVariants as S
use Rattle.spl_value.specs.declared.types.SplType.TheViews.{out-SplType}
use Rattle.spl_tree.specs.declared.body.Statement.{Statement}
use Rattle.spl_tree.specs.declared.body.Statement.TheVariants as T
use Rattle.spl_tree.specs.declared.expression.Placed.{Placed}
use Rattle.spl_tree.specs.declared.code.BuiltIn.TheVariants as Q
use Rattle.spl_tree.specs.declared.code.CallName.{CallName}
use Rattle.spl_tree.specs.declared.code.CallName.TheVariants as A
use Rattle.spl_tree.specs.declared.code.Code.{Code}
use Rattle.spl_tree.specs.declared.code.Code.TheVariants as C
use Rattle.spl_tree.specs.declared.code.Slot.{Slot}
use Rattle.language_model.specs.declared.scope.CheckError.TheVariants as E
use Rattle.language_model.specs.declared.scope.CheckRefusal.{CheckRefusal}
use Rattle.language_model.specs.declared.scope.Scope.{Scope}
use Rattle.language_model.specs.declared.scope.Signature.{Signature}
use Rattle.language_model.specs.declared.scope.Typed.{Typed}
use Rattle.language_model.specs.Scopes.{At, unresolved_of}
use Rattle.language_model.specs.Readings.{root_of}
use Rattle.language_model.specs.StatementTyping.{change_typing, function_statement}
use Rattle.language_model.specs.Typing.{Found, OnFirst, Part, after, argument_count, arguments_typed, built_in_typed, changed_typed, function_typed, if_mutable, int32, is_mutable, level_changed, level_first, mismatch, not_callable, part_typed, refused, typed, wrong_call}
use Rattle.language_model.proofs.parts.Typing.{first_typed}
use Rattle.language_model.specs.parts.Typing.{value_given}
use Rattle.call_rules.specs.Calls.{Asked, asked, asked_by_change, change_asked, first_for, given, row_for, value_asked}
use Rattle.name_rules.specs.Functions.{function_found}
use Rattle.language_model.specs.Finds.{with_front}
use Rattle.type_rules.proofs.Steps.{after_each}
use Rattle.language_model.proofs.FoundAnswers.{after_after}

-- ---- calls that the language has built in

-- the other arguments, and then what the call gives
abbrev pub with_others : ℕ → Scope → Code Slot → List (Placed Part) → Asked → Found Typed
with_others at scope code es a = after (with_front (code ∷ []) (arguments_typed scope a.1 es)) (given at a.0)

-- the first argument, and then the others
abbrev pub with_row : ℕ → Scope → CallName → Placed Part × List (Placed Part) → Found Typed
with_row at scope call p = after (part_typed p.0 scope (first_for call)) (λ x. after (asked at scope call p.0 x.kind) (with_others at scope x.code p.1))

module _ (at : ℕ) (scope : Scope) (e : Placed Part) (es : List (Placed Part)) where
  by_first : (code : Code Slot) (on : OnFirst) → first_typed at scope code es on ≡ after (value_asked at on) (with_others at scope code es)
  by_first code None = refl
  by_first code (Some on) = sym (after_after (arguments_typed scope on.2 es) (λ xs. Ok (code ∷ xs)) (λ xs. Ok (typed on.1 (C.BuiltIn on.0 xs))))

  if_changes : (code : Code Slot) (ts : List SplType) (b : Bool)
      → after (if b then arguments_typed scope ts es else refused E.NotMutable e.at None) (λ xs. mismatch at)
      ≡ after (asked_by_change (if b then Ok ts else refused E.NotMutable e.at None)) (with_others at scope code es)
  if_changes code ts true = sym (after_after (arguments_typed scope ts es) (λ xs. Ok (code ∷ xs)) (λ xs. mismatch at))
  if_changes code ts false = refl

  by_root : (code : Code Slot) (ts : List SplType) (root : Option (List ℕ))
      → after (if_mutable at scope e root (arguments_typed scope ts es)) (λ xs. mismatch at)
      ≡ after (asked_by_change (if_mutable at scope e root (Ok ts))) (with_others at scope code es)
  by_root code ts None = refl
  by_root code ts (Some name) = if_changes code ts (is_mutable scope name)

  by_change : (code : Code Slot) (o : Option (List SplType))
      → after (changed_typed at scope e es o) (λ xs. mismatch at) ≡ after (asked_by_change (change_asked at scope e o)) (with_others at scope code es)
  by_change code None = refl
  by_change code (Some ts) = by_root code ts (root_of e.what.0)

  changes : (call : CallName)
      → after (after (part_typed e scope None) (λ x. changed_typed at scope e es (level_changed call (out-SplType x.kind)))) (λ xs. mismatch at)
      ≡ after (part_typed e scope None) (λ x. after (asked_by_change (change_asked at scope e (level_changed call (out-SplType x.kind)))) (with_others at scope x.code es))
  changes call =
      after_after (part_typed e scope None) (λ x. changed_typed at scope e es (level_changed call (out-SplType x.kind))) (λ xs. mismatch at)
      ∙ after_each (part_typed e scope None) _ _ (λ x. by_change x.code (level_changed call (out-SplType x.kind)))

  gives : (call : CallName)
      → after (part_typed e scope None) (λ x. first_typed at scope x.code es (level_first call x.kind (out-SplType x.kind)))
      ≡ after (part_typed e scope None) (λ x. after (value_asked at (level_first call x.kind (out-SplType x.kind))) (with_others at scope x.code es))
  gives call = after_each (part_typed e scope None) _ _ (λ x. by_first x.code (level_first call x.kind (out-SplType x.kind)))

  if_as_many : (b : Bool) (found : Found Typed) (call : CallName) → found ≡ with_row at scope call (e, es)
      → (if b then found else wrong_call at) ≡ after (if b then Ok (e, es) else wrong_call at) (with_row at scope call)
  if_as_many true found call h = h
  if_as_many false found call h = refl

  -- a call that has no arguments
  refused_both : (b : Bool) → b ≡ false → (if b then wrong_call at else wrong_call at) ≡ after (if b then Ok (e, es) else wrong_call at) (with_row at scope A.CurrentPunct)
  refused_both true h = absurd cc
  refused_both false h = refl

  pub row_law : (call : CallName) → built_in_typed at scope call (e ∷ es) ≡ after (row_for at call (e ∷ es)) (with_row at scope call)
  row_law A.Length =
      if_as_many (length (e ∷ es) == 1) _ A.Length
      (after_after (part_typed e scope (Some S.Text)) (λ x. after (arguments_typed scope [] es) (λ xs. Ok (x.code ∷ xs))) (λ xs. Ok (typed int32 (C.BuiltIn Q.Length xs))))
  row_law A.Substring =
      if_as_many (length (e ∷ es) == 3) _ A.Substring
      (after_after (part_typed e scope (Some S.Text)) (λ x. after (arguments_typed scope (int32 ∷ int32 ∷ []) es) (λ xs. Ok (x.code ∷ xs))) (λ xs. Ok (typed S.Text (C.BuiltIn Q.Substring xs))))
  row_law A.Size = if_as_many (length (e ∷ es) == 1) _ A.Size (gives A.Size)
  row_law A.Has = if_as_many (length (e ∷ es) == 2) _ A.Has (gives A.Has)
  row_law A.Abs = if_as_many (length (e ∷ es) == 1) _ A.Abs (gives A.Abs)
  row_law A.Min = if_as_many (length (e ∷ es) == 2) _ A.Min (gives A.Min)
  row_law A.Max = if_as_many (length (e ∷ es) == 2) _ A.Max (gives A.Max)
  row_law A.AppendM = if_as_many (length (e ∷ es) == 2) _ A.AppendM (changes A.AppendM)
  row_law A.RemoveM = if_as_many (length (e ∷ es) == 2) _ A.RemoveM (changes A.RemoveM)
  row_law A.ClearM = if_as_many (length (e ∷ es) == 1) _ A.ClearM (changes A.ClearM)
  row_law A.CurrentPunct = refused_both (length (e ∷ es) == 0) (eqb-suc-zero (length es))

pub built_in_law : (at : ℕ) (scope : Scope) (call : CallName) (es : List (Placed Part)) → built_in_typed at scope call es ≡ after (row_for at call es) (with_row at scope call)
built_in_law at scope call (e ∷ es) = row_law at scope e es call
built_in_law at scope A.Length [] = refl
built_in_law at scope A.Substring [] = refl
built_in_law at scope A.Size [] = refl
built_in_law at scope A.Has [] = refl
built_in_law at scope A.Abs [] = refl
built_in_law at scope A.Min [] = refl
built_in_law at scope A.Max [] = refl
built_in_law at scope A.AppendM [] = refl
built_in_law at scope A.RemoveM [] = refl
built_in_law at scope A.ClearM [] = refl
built_in_law at scope A.CurrentPunct [] = refl

-- the types of the others, and then the others
pub changed_law : (at : ℕ) (scope : Scope) (e : Placed Part) (es : List (Placed Part)) (o : Option (List SplType))
    → changed_typed at scope e es o ≡ after (change_asked at scope e o) (λ ts. arguments_typed scope ts es)
changed_law at scope e es None = refl
changed_law at scope e es (Some ts) = by_name (root_of e.what.0)
  where
    mutable : (b : Bool)
        → (if b then arguments_typed scope ts es else refused E.NotMutable e.at None)
        ≡ after (if b then Ok ts else refused E.NotMutable e.at None) (λ ts. arguments_typed scope ts es)
    mutable true = refl
    mutable false = refl

    by_name : (root : Option (List ℕ)) → if_mutable at scope e root (arguments_typed scope ts es) ≡ after (if_mutable at scope e root (Ok ts)) (λ ts. arguments_typed scope ts es)
    by_name None = refl
    by_name (Some name) = mutable (is_mutable scope name)

-- ---- calls that change their first argument

no_row : {A : Type 0} (at : ℕ) (b : Bool) → (if b then wrong_call {A = A} at else wrong_call at) ≡ wrong_call at
no_row at true = refl
no_row at false = refl

-- the first argument and the others, and then the change
pub changing_law : (at : ℕ) (scope : Scope) (call : CallName) (es : List (Placed Part))
    → (if length es == argument_count call then change_typing at scope call es else wrong_call at)
    ≡ after (row_for at call es) (λ p. change_typing at scope call (p.0 ∷ p.1))
changing_law at scope call [] = no_row at (0 == argument_count call)
changing_law at scope call (e ∷ es) = by (length (e ∷ es) == argument_count call)
  where
    by : (b : Bool) → (if b then change_typing at scope call (e ∷ es) else wrong_call at)
        ≡ after {A = Placed Part × List (Placed Part)} (if b then Ok (e, es) else wrong_call at) (λ p. change_typing at scope call (p.0 ∷ p.1))
    by true = refl
    by false = refl

-- ---- calls of functions

-- the function, then the codes of the arguments, and then what a call makes of them
module _ {B : Type 0} (at : ℕ) (scope : Scope) (name : List ℕ) (es : List (Placed Part)) (made : At Signature → List (Code Slot) → Found B) where
  abbrev with_codes : At Signature → Found B
  with_codes f = after (arguments_typed scope f.what.parameters es) (made f)

  not_there : (r : Option CheckRefusal) → not_callable at name r ≡ after {A = At Signature} (not_callable at name r) with_codes
  not_there None = refl
  not_there (Some r) = refl

  as_many : (b : Bool) (f : At Signature) → (if b then with_codes f else wrong_call at) ≡ after (if b then Ok f else wrong_call at) with_codes
  as_many true f = refl
  as_many false f = refl

module _ (at : ℕ) (scope : Scope) (name : List ℕ) (es : List (Placed Part)) where
  abbrev value_made : At Signature → List (Code Slot) → Found Typed
  value_made f xs = value_given at f.what.result (C.Call f.place xs)

  pub function_law : (o : Option (At Signature))
      → function_typed at scope name es o ≡ after (function_found at scope name es o) (λ f. after (arguments_typed scope f.what.parameters es) (value_made f))
  function_law None = not_there at scope name es value_made (unresolved_of scope name)
  function_law (Some f) = as_many at scope name es value_made (length es == length f.what.parameters) f

  abbrev statement_made : At Signature → List (Code Slot) → Found Statement
  statement_made f xs = Ok (T.Call f.place xs)

  pub function_statement_law : (o : Option (At Signature))
      → function_statement at scope name es o ≡ after (function_found at scope name es o) (λ f. after (arguments_typed scope f.what.parameters es) (statement_made f))
  function_statement_law None = not_there at scope name es statement_made (unresolved_of scope name)
  function_statement_law (Some f) = as_many at scope name es statement_made (length es == length f.what.parameters) f
