-- Functions that were found have the types of their signatures, and their bodies fit.
use Rattle.std.specs.Prelude.{◌≡◌, ℕ, zero, suc, Bool, true, false, ◌&&◌, not, List, [], ◌∷◌, map, filter_map, length, if◌then◌else◌, Option, Some, None, Ok, is_some, slice_get}
use Rattle.std.specs.List.{cons_option, list_all}
use Rattle.std.proofs.Common.{refl, sym, ap, ◌∙◌, subst}
use Rattle.spl_value.specs.declared.types.Named.{Named}
use Rattle.spl_value.specs.declared.types.SplType.{SplType}
use Rattle.spl_tree.specs.declared.body.Function.{Function}
use Rattle.spl_tree.specs.declared.body.Statement.{Statement}
use Rattle.spl_tree.specs.declared.unit.Definition.{Definition}
use Rattle.spl_tree.specs.declared.unit.FunctionDefinition.{FunctionDefinition}
use Rattle.language_model.specs.declared.scope.CheckError.TheVariants as E
use Rattle.language_model.specs.declared.scope.Signature.{Signature}
use Rattle.language_model.specs.declared.scope.Unresolved.{Unresolved}
use Rattle.language_model.specs.declared.scope.Variable.{Variable}
use Rattle.language_model.specs.BodyFits.{OfFunction, RowFits}
use Rattle.language_model.specs.BodyLaws.{BodyFitLaw, BodyReturnsLaw}
use Rattle.language_model.specs.BodyTyping.{body_typing, returns, variable}
use Rattle.language_model.specs.Composites.{functions}
use Rattle.language_model.specs.FitLaws.{DollarsFit}
use Rattle.language_model.specs.FunctionTyping.{FunctionTypes, function_types, function_typing, functions_typing, if_returning, signature, unit_scope}
use Rattle.language_model.specs.parts.FunctionTyping.{as_signature, as_unresolved, kinds}
use Rattle.language_model.proofs.parts.FunctionTyping.{each_typed, function_scope, function_setting}
use Rattle.language_model.specs.TypeNames.{unit_types}
use Rattle.language_model.specs.Typing.{after, refused}
use Rattle.language_model.specs.WorldFits.{FunctionFits, FunctionsFit, body_scope}
use Rattle.language_model.proofs.FoundAnswers.{after_gives, same_Ok}

-- ---- one function

abbrev parameter_variables : List (Named SplType) → List Variable
parameter_variables schema = map (λ a. variable false a.name a.kind) schema

variables_kinds : (schema : List (Named SplType)) → map (λ x. x.kind) (parameter_variables schema) ≡ kinds schema
variables_kinds [] = refl
variables_kinds (a ∷ schema) = ap (λ ts. a.kind ∷ ts) (variables_kinds schema)

none_mutable : (schema : List (Named SplType)) → list_all (λ x. not x.mutable) (parameter_variables schema) ≡ true
none_mutable [] = refl
none_mutable (a ∷ schema) = none_mutable schema

-- what the code of a body makes a function of
record IsFunction (f : FunctionDefinition) (t : FunctionTypes) (row : List Statement) (x : Function) : Type 0 where
  pub is : ◌≡◌ {A = Function} (record { parameters = kinds t.parameters; result = t.result; body = row }) x
  pub ends : (u : SplType) → t.result ≡ Some u → returns f.body ≡ true

ending : (o : Option SplType) (b : Bool) → (is_some o && not b) ≡ false → (u : SplType) → o ≡ Some u → b ≡ true
ending None b none u e = absurd cc
ending (Some t) true none u e = refl
ending (Some t) false none u e = absurd cc

returning : (f : FunctionDefinition) (t : FunctionTypes) (row : List Statement) (x : Function) → if_returning f t row ≡ Ok x → IsFunction f t row x
returning f t row x e =
    elim (is_some t.result && not (returns f.body))
    as (λ b. (is_some t.result && not (returns f.body)) ≡ b
    → (if b then refused E.NoReturn f.name.at (Some f.name.what) else Ok (record { parameters = kinds t.parameters; result = t.result; body = row })) ≡ Ok x
    → IsFunction f t row x) [
      | true ↦ λ no gives. absurd cc
      | false ↦ λ fine gives. record { is = same_Ok gives; ends = ending t.result (returns f.body) fine }
    ] refl e

-- ---- all functions

abbrev signed : List Definition → FunctionDefinition → Option Signature
signed unit f = as_signature f.name.what (function_types (unit_types unit) f)

abbrev unsigned : List Definition → FunctionDefinition → Option Unresolved
unsigned unit f = as_unresolved f.name.what (function_types (unit_types unit) f)

-- the types of a function that was found, and what its body gave
record Typed (unit : List Definition) (f : FunctionDefinition) (x : Function) : Type 0 where
  pub types : FunctionTypes
  pub row : List Statement
  pub meant : function_types (unit_types unit) f ≡ Ok types
  pub body : body_typing (function_setting unit types.result) (function_scope unit types.parameters) f.body ≡ Ok row
  pub function : IsFunction f types row x

typed : (unit : List Definition) (f : FunctionDefinition) (x : Function) → function_typing unit f ≡ Ok x → Typed unit f x
typed unit f x e =
    let a = after_gives (function_types (unit_types unit) f)
    (λ t. after (body_typing (function_setting unit t.result) (function_scope unit t.parameters) f.body) (if_returning f t)) x e in
    let b = after_gives (body_typing (function_setting unit a.0.result) (function_scope unit a.0.parameters) f.body) (if_returning f a.0) x a.2 in
    record { types = a.0; row = b.0; meant = a.1; body = b.1; function = returning f a.0 b.0 x b.2 }

-- each function, in their order
data AllTyped (unit : List Definition) : List FunctionDefinition → List Function → Type 0 where
  no_functions : AllTyped unit [] []
  one_function : (f : FunctionDefinition) (fs : List FunctionDefinition) (x : Function) (xs : List Function) → Typed unit f x → AllTyped unit fs xs
      → AllTyped unit (f ∷ fs) (x ∷ xs)

all_typed : (unit : List Definition) (fs : List FunctionDefinition) (xs : List Function) → each_typed unit fs ≡ Ok xs → AllTyped unit fs xs
all_typed unit [] xs e = let none : [] ≡ xs = same_Ok e in subst (AllTyped unit []) none no_functions
all_typed unit (f ∷ fs) xs e =
    let a = after_gives (function_typing unit f) (λ x. after (each_typed unit fs) (λ rest. Ok (x ∷ rest))) xs e in
    let b = after_gives (each_typed unit fs) (λ rest. Ok (a.0 ∷ rest)) xs a.2 in
    let is : a.0 ∷ b.0 ≡ xs = same_Ok b.2 in
    subst (AllTyped unit (f ∷ fs)) is (one_function f fs a.0 b.0 (typed unit f a.0 a.1) (all_typed unit fs b.0 b.1))

all_signed : (unit : List Definition) (fs : List FunctionDefinition) (xs : List Function) → AllTyped unit fs xs → filter_map (unsigned unit) fs ≡ []
all_signed unit _ _ no_functions = refl
all_signed unit _ _ (one_function f fs x xs t rest) =
    ap (λ found. cons_option (as_unresolved f.name.what found) (filter_map (unsigned unit) fs)) t.meant ∙ all_signed unit fs xs rest

signature_first : (unit : List Definition) (f : FunctionDefinition) (fs : List FunctionDefinition) (x : Function) (t : Typed unit f x)
    → filter_map (signed unit) (f ∷ fs) ≡ signature f.name.what t.types ∷ filter_map (signed unit) fs
signature_first unit f fs x t = ap (λ found. cons_option (as_signature f.name.what found) (filter_map (signed unit) fs)) t.meant

as_many : (unit : List Definition) (fs : List FunctionDefinition) (xs : List Function) → AllTyped unit fs xs → length xs ≡ length (filter_map (signed unit) fs)
as_many unit _ _ no_functions = refl
as_many unit _ _ (one_function f fs x xs t rest) = ap suc (as_many unit fs xs rest) ∙ sym (ap length (signature_first unit f fs x t))

module _ (unit : List Definition) (fits : BodyFitLaw) (ends : BodyReturnsLaw) (none : DollarsFit []) (resolved : filter_map (unsigned unit) (functions unit) ≡ []) where
  abbrev signatures : List Signature
  signatures = (unit_scope unit).functions

  body_fits : (f : FunctionDefinition) (x : Function) (t : Typed unit f x)
      → RowFits (OfFunction t.types.result) false (body_scope signatures (parameter_variables t.types.parameters)) t.row
  body_fits f x t =
      subst (λ (unresolved : List Unresolved). RowFits (OfFunction t.types.result) false
      (record { vars = parameter_variables t.types.parameters; ports = []; functions = signatures; unresolved = unresolved; dollars = []; punct = false }) t.row) resolved
      (fits (function_setting unit t.types.result) (function_scope unit t.types.parameters) f.body t.row none t.body)

  made_fits : (f : FunctionDefinition) (x : Function) (t : Typed unit f x)
      → FunctionFits signatures (signature f.name.what t.types) (record { parameters = kinds t.types.parameters; result = t.types.result; body = t.row })
  made_fits f x t = record {
    parameters = refl;
    result = refl;
    variables = parameter_variables t.types.parameters;
    kinds = variables_kinds t.types.parameters;
    immutable = none_mutable t.types.parameters;
    body = body_fits f x t;
    returns = λ u is.
        ends (function_setting unit t.types.result) (function_scope unit t.types.parameters) f.body t.row t.body (t.function.ends u is);
  }

  function_fits : (f : FunctionDefinition) (x : Function) (t : Typed unit f x) → FunctionFits signatures (signature f.name.what t.types) x
  function_fits f x t = subst (FunctionFits signatures (signature f.name.what t.types)) t.function.is (made_fits f x t)

  each_fits : (fs : List FunctionDefinition) (xs : List Function) → AllTyped unit fs xs → (i : ℕ) (s : Signature) → slice_get (filter_map (signed unit) fs) i ≡ Some s
      → (x : Function) × (slice_get xs i ≡ Some x) × FunctionFits signatures s x
  each_fits _ _ no_functions i s e = absurd cc
  each_fits _ _ (one_function f fs x xs t rest) zero s e =
      let first : ◌≡◌ {A = Option Signature} (Some (signature f.name.what t.types)) (Some s) = sym (ap (λ (ss : List Signature). slice_get ss 0) (signature_first unit f fs x t)) ∙ e in
      let same : signature f.name.what t.types ≡ s = cc in
      (x, refl, subst (λ (z : Signature). FunctionFits signatures z x) same (function_fits f x t))
  each_fits _ _ (one_function f fs x xs t rest) (suc i) s e =
      each_fits fs xs rest i s (sym (ap (λ (ss : List Signature). slice_get ss (suc i)) (signature_first unit f fs x t)) ∙ e)

-- ---- the functions of a unit

pub functions_fit : (unit : List Definition) (xs : List Function) → BodyFitLaw → BodyReturnsLaw → DollarsFit [] → functions_typing unit ≡ Ok xs
    → FunctionsFit (unit_scope unit).functions xs
functions_fit unit xs fits ends none e =
    let all = all_typed unit (functions unit) xs e in
    each_fits unit fits ends none (all_signed unit (functions unit) xs all) (functions unit) xs all

pub each_signed : (unit : List Definition) (xs : List Function) → functions_typing unit ≡ Ok xs → length xs ≡ length (unit_scope unit).functions
each_signed unit xs e = as_many unit (functions unit) xs (all_typed unit (functions unit) xs e)
