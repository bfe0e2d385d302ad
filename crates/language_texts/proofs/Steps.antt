-- What still holds when a variable or a port is added with its value, and what can be evaluated then.
use Rattle.std.specs.Prelude.{◌≡◌, ◌+◌, ℕ, Bool, zero, suc, IsTrue, List, [], ◌∷◌, ◌++◌, length, Option, Some, None, Ok, slice_get}
use Rattle.std.specs.Option.{is_some}
use Rattle.std.proofs.Common.{refl, sym, ap, subst, ◌∙◌, length-append}
use Rattle.spl_value.specs.declared.types.SplType.{SplType}
use Rattle.spl_value.specs.declared.types.SplType.TheVariants as S
use Rattle.spl_value.specs.declared.value.Value.{Value}
use Rattle.spl_value.specs.declared.value.Value.TheVariants as V
use Rattle.spl_value.specs.Values.{fits}
use Rattle.spl_tree.specs.declared.body.Function.{Function}
use Rattle.spl_tree.specs.declared.code.Code.{Code}
use Rattle.spl_tree.specs.declared.code.Marker.{Marker}
use Rattle.spl_tree.specs.declared.code.Slot.{Slot}
use Rattle.spl_tree.specs.declared.unit.Definition.{Definition}
use Rattle.language_model.specs.declared.env.Env.{Env}
use Rattle.language_model.specs.declared.scope.Port.{Port}
use Rattle.language_model.specs.declared.scope.Scope.{Scope}
use Rattle.language_model.specs.declared.scope.Variable.{Variable}
use Rattle.language_model.specs.BodyLaws.{BodyFitLaw, BodyReturnsLaw}
use Rattle.language_model.specs.CodeFits.{CodeFits}
use Rattle.language_model.specs.Evaluation.{world_of}
use Rattle.language_model.specs.FitLaws.{DollarsFit}
use Rattle.language_model.specs.FunctionTyping.{functions_typing, unit_scope}
use Rattle.language_model.specs.Functions.{value}
use Rattle.language_model.specs.Outcomes.{Done}
use Rattle.language_model.specs.ValueLaws.{NeverStuckLaw}
use Rattle.language_model.specs.WorldFits.{FunctionsFit, Fits, ComesTo}
use Rattle.check_laws.proofs.SignedFunctions.{functions_fit}
use Rattle.language_texts.specs.Contexts.{Holds}

-- ---- lists that grow side by side

-- what stands at each place belongs together, and so do what is added
added : {A B : Type 0} (R : A → B → Type 0) (xs : List A) (ys : List B) (x : A) (y : B) → length ys ≡ length xs
    → ((i : ℕ) (a : A) → slice_get xs i ≡ Some a → (b : B) × (slice_get ys i ≡ Some b) × R a b) → R x y
    → (i : ℕ) (a : A) → slice_get (xs ++ x ∷ []) i ≡ Some a → (b : B) × (slice_get (ys ++ y ∷ []) i ≡ Some b) × R a b
added R [] [] x y e h r zero a p = let s : x ≡ a = cc in (y, refl, subst (λ z. R z y) s r)
added R [] [] x y e h r (suc i) a p = absurd cc
added R [] (w ∷ ys) x y e h r i a p = absurd cc
added R (z ∷ xs) [] x y e h r i a p = absurd cc
added R (z ∷ xs) (w ∷ ys) x y e h r zero a p = h zero a p
added R (z ∷ xs) (w ∷ ys) x y e h r (suc i) a p = let f : length ys ≡ length xs = cc in added R xs ys x y f (λ j b q. h (suc j) b q) r i a p

longer : {A B : Type 0} (xs : List A) (ys : List B) (x : A) (y : B) → length ys ≡ length xs → length (ys ++ y ∷ []) ≡ length (xs ++ x ∷ [])
longer xs ys x y e = length-append ys (y ∷ []) ∙ ap (λ n. n + 1) e ∙ sym (length-append xs (x ∷ []))

-- ---- what can be named

pub with_variable : (scope : Scope) (env : Env) (functions : List Function) (x : Variable) (v : Value) → Holds scope env functions
    → (xs : List Variable) (vs : List Value) → xs ≡ scope.vars ++ x ∷ [] → vs ≡ env.vars ++ v ∷ [] → IsTrue (fits x.kind v)
    → Holds (record scope { vars = xs }) (record env { vars = vs }) functions
with_variable scope env functions x v h xs vs e d f = rw (e, d) record {
  variables = longer scope.vars env.vars x v h.variables;
  ports = h.ports;
  env_fits = record {
    variables = added (λ a b. IsTrue (fits a.kind b)) scope.vars env.vars x v h.variables h.env_fits.variables f;
    inputs = h.env_fits.inputs;
    marker = h.env_fits.marker;
  };
  functions_fit = h.functions_fit;
}

pub with_port : (scope : Scope) (env : Env) (functions : List Function) (p : Port) (vs : List Value) → Holds scope env functions
    → (ps : List Port) (is : List (List Value)) → ps ≡ scope.ports ++ p ∷ [] → is ≡ env.inputs ++ vs ∷ [] → IsTrue (fits (S.Tuple p.schema) (V.Tuple vs))
    → Holds (record scope { ports = ps }) (record env { inputs = is }) functions
with_port scope env functions p vs h ps is e d f = rw (e, d) record {
  variables = h.variables;
  ports = longer scope.ports env.inputs p vs h.ports;
  env_fits = record {
    variables = h.env_fits.variables;
    inputs = added (λ a b. IsTrue (fits (S.Tuple a.schema) (V.Tuple b))) scope.ports env.inputs p vs h.ports h.env_fits.inputs f;
    marker = h.env_fits.marker;
  };
  functions_fit = h.functions_fit;
}

nothing_at : {A : Type 0} (xs : List A) → xs ≡ [] → (i : ℕ) (x : A) → slice_get xs i ≡ Some x → ⊥
nothing_at [] e i x p = cc
nothing_at (y ∷ xs) e i x p = cc

marker_is : (o : Option Marker) → IsTrue (is_some o) → (m : Marker) × (o ≡ Some m)
marker_is None h = absurd cc
marker_is (Some m) h = (m, refl)

-- functions alone are there, and the marker if one came
pub with_functions : (scope : Scope) (env : Env) (functions : List Function) → scope.vars ≡ [] → scope.ports ≡ [] → env.vars ≡ [] → env.inputs ≡ []
    → scope.punct ≡ is_some env.punct → FunctionsFit scope.functions functions → Holds scope env functions
with_functions scope env functions vars ports values inputs punct h = record {
  variables = cc;
  ports = cc;
  env_fits = record {
    variables = λ i x p. absurd (nothing_at scope.vars vars i x p);
    inputs = λ i x p. absurd (nothing_at scope.ports ports i x p);
    marker = λ h. marker_is env.punct (subst IsTrue punct h);
  };
  functions_fit = h;
}

-- the functions of a unit alone are there, and the marker if one came
pub unit_holds : BodyFitLaw → BodyReturnsLaw → DollarsFit [] → (unit : List Definition) (scope : Scope) (punct : Bool) (env : Env) (functions : List Function)
    → functions_typing unit ≡ Ok functions → scope ≡ unit_scope unit → punct ≡ is_some env.punct → env.vars ≡ [] → env.inputs ≡ []
    → Holds (record scope { punct = punct }) env functions
unit_holds fits ends none unit scope punct env functions found e p values inputs =
    with_functions (record scope { punct = punct }) env functions (ap (λ (s : Scope). s.vars) e) (ap (λ (s : Scope). s.ports) e) values inputs p
    (subst (λ signatures. FunctionsFit signatures functions) (sym (ap (λ (s : Scope). s.functions) e)) (functions_fit unit functions fits ends none found))

-- ---- values

pub value_fits : NeverStuckLaw → (scope : Scope) (env : Env) (functions : List Function) (code : Code Slot) (t : SplType) → Holds scope env functions → CodeFits scope code t
    → (turns left : ℕ) (v : Value) → value functions code (world_of env) turns ≡ Done v left → IsTrue (fits t v)
value_fits law scope env functions code t h fit turns left v e = subst (ComesTo t) e (law functions code env t all_fits turns turns)
  where
    all_fits : Fits functions code env t
    all_fits = record { scope = scope; code_fits = fit; env_fits = h.env_fits; functions_fit = h.functions_fit }
