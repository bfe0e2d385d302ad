-- How far the loops over the functions of a unit have come.
use Rattle.std.specs.Prelude.{◌≡◌, ◌<◌, ◌+◌, ℕ, false, List, [], ◌∷◌, ◌++◌, length, take, drop, filter_map, Option, Ok, Err}
use Rattle.std.proofs.Common.{refl, ap, sym, ◌∙◌, append-nil, append_assoc, get_or}
use Rattle.std.proofs.lemmas.List.Elements.{filter_map-append}
use Rattle.spl_tree.specs.declared.body.Function.{Function}
use Rattle.spl_tree.specs.declared.unit.Definition.{Definition}
use Rattle.spl_tree.specs.declared.unit.Definition.TheVariants as D
use Rattle.spl_tree.specs.declared.unit.FunctionDefinition.{FunctionDefinition}
use Rattle.language_model.specs.declared.scope.Scope.{Scope}
use Rattle.language_model.specs.declared.scope.Signature.{Signature}
use Rattle.language_model.specs.declared.scope.Unresolved.{Unresolved}
use Rattle.language_model.specs.Composites.{as_function, functions}
use Rattle.language_model.specs.FunctionTyping.{FunctionTypes as Typing, signature, function_types, function_typing, unit_scope}
use Rattle.language_model.specs.parts.FunctionTyping.{as_signature, as_unresolved}
use Rattle.language_model.proofs.parts.FunctionTyping.{each_typed}
use Rattle.language_model.specs.TypeNames.{Types, unit_types}
use Rattle.language_model.specs.Typing.{Found, after}
use Rattle.language_model.specs.declared.answer.TypeAnswer.{TypeAnswer}
use Rattle.language_model.specs.Finds.{Finds, with_front}
use Rattle.body_rules.specs.declared.functions.FunctionTypes.{FunctionTypes}
use Rattle.body_rules.specs.steps.Signatures.{as_types, function_in, scope_in, with_definition, with_function}
use Rattle.language_model.proofs.FoundAnswers.{after_after, finds_by, stops}
use Rattle.spl_value.proofs.Lists.{drop_at, take_at as taken_on}

-- ---- signatures

module _ (types : Types) where
  abbrev signatures : List FunctionDefinition → List Signature
  signatures fs = filter_map (λ f. as_signature f.name.what (function_types types f)) fs

  abbrev unresolved : List FunctionDefinition → List Unresolved
  unresolved fs = filter_map (λ f. as_unresolved f.name.what (function_types types f)) fs

  -- a scope with these functions
  abbrev scope_of : List Signature → List Unresolved → Scope
  scope_of xs ys = record { vars = []; ports = []; functions = xs; unresolved = ys; dollars = []; punct = false }

  one_more : (fs : List FunctionDefinition) (f : FunctionDefinition) (found : Found Typing) → function_types types f ≡ found
      → scope_of (signatures (fs ++ f ∷ [])) (unresolved (fs ++ f ∷ [])) ≡ with_function (scope_of (signatures fs) (unresolved fs)) f.name.what found
  one_more fs f found is =
      (λ i. scope_of (filter_map-append (λ f. as_signature f.name.what (function_types types f)) fs (f ∷ []) i)
      (filter_map-append (λ f. as_unresolved f.name.what (function_types types f)) fs (f ∷ []) i))
      ∙ ap (λ o. scope_of (signatures fs ++ only (as_signature f.name.what o)) (unresolved fs ++ only (as_unresolved f.name.what o))) is
      ∙ told found
    where
      only : {A : Type 0} → Option A → List A
      only o = filter_map (λ x. x) (o ∷ [])

      told : (found : Found Typing)
          → scope_of (signatures fs ++ only (as_signature f.name.what found)) (unresolved fs ++ only (as_unresolved f.name.what found))
          ≡ with_function (scope_of (signatures fs) (unresolved fs)) f.name.what found
      told (Ok t) = ap (λ ys. scope_of (signatures fs ++ signature f.name.what t ∷ []) ys) (append-nil (unresolved fs))
      told (Err refusal) = ap (λ xs. scope_of xs (unresolved fs ++ record { name = f.name.what; refusal = refusal } ∷ [])) (append-nil (signatures fs))

  behind : (unit : List Definition) (d : Definition) → scope_in types (unit ++ d ∷ []) ≡ with_definition types (scope_in types unit) d
  behind unit (D.Function f) =
      ap (λ fs. scope_of (signatures fs) (unresolved fs)) (filter_map-append as_function unit (D.Function f ∷ []))
      ∙ one_more (functions unit) f (function_types types f) refl
  behind unit (D.Type t) =
      ap (λ fs. scope_of (signatures fs) (unresolved fs)) (filter_map-append as_function unit (D.Type t ∷ []) ∙ append-nil (functions unit))
  behind unit (D.Composite c) =
      ap (λ fs. scope_of (signatures fs) (unresolved fs)) (filter_map-append as_function unit (D.Composite c ∷ []) ∙ append-nil (functions unit))

  pub scope_on : (unit : List Definition) (i : ℕ) (d : Definition) → i < length unit → d ≡ get_or unit i d
      → with_definition types (scope_in types (take i unit)) d ≡ scope_in types (take (i + 1) unit)
  scope_on unit i d h e = sym (ap (scope_in types) (taken_on unit i d h e) ∙ behind (take i unit) d)

  pub no_function : (scope : Scope) (d : Definition) → ((f : FunctionDefinition) → d ≡ D.Function f → ⊥) → scope ≡ with_definition types scope d
  no_function scope (D.Function f) h = absurd (h f refl)
  no_function scope (D.Type t) h = refl
  no_function scope (D.Composite c) h = refl

-- the types of a function, as the code has them
pub types_are : (found : Found Typing) (t : FunctionTypes) → as_types found ≡ Ok t → found ≡ Ok (record { result = t.result; parameters = t.parameters })
types_are (Ok s) t h = ap (λ o. ok_or o s) h
  where
    ok_or : Found FunctionTypes → Typing → Found Typing
    ok_or (Ok x) y = Ok (record { result = x.result; parameters = x.parameters })
    ok_or (Err r) y = Ok y
types_are (Err r) t h = absurd cc

-- ---- bodies

module _ (unit : List Definition) (i : ℕ) (d : Definition) (h : i < length unit) (e : d ≡ get_or unit i d) where
  abbrev pub typed_from : List Function → ℕ → Found (List Function)
  typed_from front i = with_front front (each_typed unit (functions (drop i unit)))

  pub typed_on : (f : FunctionDefinition) → d ≡ D.Function f → (front : List Function) (x : Function) (zs : List Function) → function_typing unit f ≡ Ok x → zs ≡ front ++ x ∷ []
      → typed_from front i ≡ typed_from zs (i + 1)
  typed_on f is front x zs found z =
      ap (λ ds. with_front front (each_typed unit (functions ds))) (drop_at unit i d h e ∙ ap (λ d. d ∷ drop (i + 1) unit) is)
      ∙ ap (λ o. with_front front (after o (λ x. after (each_typed unit (functions (drop (i + 1) unit))) (λ xs. Ok (x ∷ xs))))) found
      ∙ after_after (each_typed unit (functions (drop (i + 1) unit))) (λ ys. Ok (x ∷ ys)) (λ ys. Ok (front ++ ys))
      ∙ (λ j. after (each_typed unit (functions (drop (i + 1) unit))) (λ ys. Ok (sym (append_assoc front (x ∷ []) ys) j)))
      ∙ ap (λ l. typed_from l (i + 1)) (sym z)

  passed : (d : Definition) → ((f : FunctionDefinition) → d ≡ D.Function f → ⊥) → functions (d ∷ drop (i + 1) unit) ≡ functions (drop (i + 1) unit)
  passed (D.Function f) other = absurd (other f refl)
  passed (D.Type t) other = refl
  passed (D.Composite c) other = refl

  pub typed_past : ((f : FunctionDefinition) → d ≡ D.Function f → ⊥) → (front : List Function) → typed_from front i ≡ typed_from front (i + 1)
  typed_past other front = ap (λ ds. with_front front (each_typed unit (functions ds))) (drop_at unit i d h e) ∙ ap (λ fs. with_front front (each_typed unit fs)) (passed d other)

  pub typed_stops : (f : FunctionDefinition) → d ≡ D.Function f → (front : List Function) (a : TypeAnswer) → Finds (function_typing unit f) (Err a) → Finds (typed_from front i) (Err a)
  typed_stops f is front a found =
      finds_by (typed_from front i) (with_front front (each_typed unit (f ∷ functions (drop (i + 1) unit)))) (Err a)
      (ap (λ ds. with_front front (each_typed unit (functions ds))) (drop_at unit i d h e ∙ ap (λ d. d ∷ drop (i + 1) unit) is))
      (stops (each_typed unit (f ∷ functions (drop (i + 1) unit))) (λ ys. Ok (front ++ ys)) a
      (stops (function_typing unit f) (λ x. after (each_typed unit (functions (drop (i + 1) unit))) (λ xs. Ok (x ∷ xs))) a found))

-- a function in the scope of its unit
pub in_unit : (unit : List Definition) (types : Types) (scope : Scope) (f : FunctionDefinition) → types ≡ unit_types unit → scope ≡ unit_scope unit
    → function_in types scope f ≡ function_typing unit f
in_unit unit types scope f t s = λ i. function_in (t i) (s i) f

pub scope_is : (unit ds : List Definition) (types : Types) → types ≡ unit_types unit → ds ≡ unit → scope_in types ds ≡ unit_scope unit
scope_is unit ds types t is = λ i. scope_in (t i) (is i)
