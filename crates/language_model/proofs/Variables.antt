-- What statements do to variables keeps the values of a scope: a new variable, another value, the end of a block.
use Rattle.std.specs.Prelude.{◌≡◌, ◌≤◌, ℕ, zero, suc, List, [], ◌∷◌, ◌++◌, length, take, None, Some, slice_get, slice_set}
use Rattle.std.proofs.Common.{refl, sym, ap, subst, ◌∙◌, arith}
use Rattle.std.proofs.lemmas.List.{length-take-le, length-set}
use Rattle.spl_value.specs.declared.value.Value.{Value}
use Rattle.language_model.specs.declared.env.Env.{Env}
use Rattle.language_model.specs.declared.scope.Scope.{Scope}
use Rattle.language_model.specs.declared.scope.Signature.{Signature}
use Rattle.language_model.specs.declared.scope.Variable.{Variable}
use Rattle.language_model.specs.BodyFits.{with_variable}
use Rattle.language_model.specs.WorldFits.{EnvFits, VariablesFit}
use Rattle.language_model.proofs.Yielding.{IsThere, OfType}

-- each variable has a value of its type
abbrev pub EachHas : List Variable → List Value → Type 0
EachHas xs vs = (i : ℕ) (x : Variable) → slice_get xs i ≡ Some x → IsThere (OfType x.kind) (slice_get vs i)

each_added : (xs : List Variable) (vs : List Value) (x : Variable) (v : Value) → length vs ≡ length xs → EachHas xs vs → OfType x.kind v → EachHas (xs ++ x ∷ []) (vs ++ v ∷ [])
each_added [] [] x v e h f zero y at = let same : x ≡ y = cc in (v, refl, subst (λ (x : Variable). OfType x.kind v) same f)
each_added [] [] x v e h f (suc i) y at = absurd cc
each_added [] (u ∷ vs) x v e h f i y at = absurd cc
each_added (z ∷ xs) [] x v e h f i y at = absurd cc
each_added (z ∷ xs) (u ∷ vs) x v e h f zero y at = h zero y at
each_added (z ∷ xs) (u ∷ vs) x v e h f (suc i) y at = each_added xs vs x v (omega arith) (λ i y at. h (suc i) y at) f i y at

each_set : (xs : List Variable) (vs : List Value) (i : ℕ) (x : Variable) (v : Value) → EachHas xs vs → slice_get xs i ≡ Some x → OfType x.kind v → EachHas xs (slice_set vs i v)
each_set xs [] i x v h at f j y there = h j y there
each_set [] (u ∷ vs) i x v h at f j y there = absurd cc
each_set (z ∷ xs) (u ∷ vs) zero x v h at f zero y there = let same : x ≡ y = cc in (v, refl, subst (λ (x : Variable). OfType x.kind v) same f)
each_set (z ∷ xs) (u ∷ vs) zero x v h at f (suc j) y there = h (suc j) y there
each_set (z ∷ xs) (u ∷ vs) (suc i) x v h at f zero y there = h zero y there
each_set (z ∷ xs) (u ∷ vs) (suc i) x v h at f (suc j) y there = each_set xs vs i x v (λ j y at. h (suc j) y at) at f j y there

each_taken : (xs : List Variable) (vs : List Value) → EachHas xs vs → EachHas xs (take (length xs) vs)
each_taken [] vs h i x at = absurd cc
each_taken (z ∷ xs) [] h i x at = h i x at
each_taken (z ∷ xs) (u ∷ vs) h zero x at = h zero x at
each_taken (z ∷ xs) (u ∷ vs) h (suc i) x at = each_taken xs vs (λ i y at. h (suc i) y at) i x at

-- so there are enough of them
enough : (xs : List Variable) (vs : List Value) → EachHas xs vs → length xs ≤ length vs
enough [] vs h = omega arith
enough (z ∷ xs) [] h = let is = h zero z refl in absurd (none is.0 is.1) where
  none : (v : Value) → None ≡ Some v → ⊥
  none v e = cc
enough (z ∷ xs) (u ∷ vs) h = let less = enough xs vs (λ i y at. h (suc i) y at) in omega arith

pub kept : (xs ys : List Variable) (i : ℕ) (x : Variable) → slice_get xs i ≡ Some x → slice_get (xs ++ ys) i ≡ Some x
kept [] ys i x at = absurd cc
kept (z ∷ xs) ys zero x at = at
kept (z ∷ xs) ys (suc i) x at = kept xs ys i x at

-- an environment with other variables
abbrev pub with_values : Env → List Value → Env
with_values env vs = record { inputs = env.inputs; vars = vs; punct = env.punct }

values_fit : (scope : Scope) (env : Env) (vs : List Value) → EnvFits scope env → EachHas scope.vars vs → EnvFits scope (with_values env vs)
values_fit scope env vs e h = record { variables = h; inputs = e.inputs; marker = e.marker }

pub declared_fit : (scope : Scope) (env : Env) (x : Variable) (v : Value) → VariablesFit scope env → OfType x.kind v
    → VariablesFit (with_variable scope x) (with_values env (env.vars ++ v ∷ []))
declared_fit scope env x v h f = record {
  env_fits = record { variables = each_added scope.vars env.vars x v h.count h.env_fits.variables f; inputs = h.env_fits.inputs; marker = h.env_fits.marker };
  count = one_more env.vars scope.vars v x h.count;
} where
  one_more : {A B : Type 0} (xs : List A) (ys : List B) (x : A) (y : B) → length xs ≡ length ys → length (xs ++ x ∷ []) ≡ length (ys ++ y ∷ [])
  one_more [] [] x y e = refl
  one_more [] (z ∷ ys) x y e = absurd cc
  one_more (z ∷ xs) [] x y e = absurd cc
  one_more (u ∷ xs) (z ∷ ys) x y e = ap suc (one_more xs ys x y (omega arith))

-- of the values of a wider scope, those that were there before
pub ended_fit : (scope : Scope) (before env : Env) → VariablesFit scope before → EnvFits scope env → VariablesFit scope (with_values env (take (length before.vars) env.vars))
ended_fit scope before env h e = record {
  env_fits = values_fit scope env (take (length before.vars) env.vars) e
      (subst (λ (n : ℕ). EachHas scope.vars (take n env.vars)) (sym h.count) (each_taken scope.vars env.vars e.variables));
  count = length-take-le (length before.vars) env.vars (subst (λ (n : ℕ). n ≤ length env.vars) (sym h.count) (enough scope.vars env.vars e.variables)) ∙ h.count;
}

pub set_fit : (scope : Scope) (env : Env) (i : ℕ) (x : Variable) (v : Value) → VariablesFit scope env → slice_get scope.vars i ≡ Some x → OfType x.kind v
    → VariablesFit scope (with_values env (slice_set env.vars i v))
set_fit scope env i x v h at f = record {
  env_fits = values_fit scope env (slice_set env.vars i v) h.env_fits (each_set scope.vars env.vars i x v h.env_fits.variables at f);
  count = length-set env.vars i v ∙ h.count;
}

-- a scope with one variable more, or the same
pub data Grows (scope : Scope) : Scope → Type 0 where
  same : Grows scope scope
  more : (v : Variable) → Grows scope (with_variable scope v)

pub shrunk : (scope next : Scope) → Grows scope next → (env : Env) → EnvFits next env → EnvFits scope env
shrunk scope _ same env e = e
shrunk scope _ (more v) env e = record { variables = λ i x at. e.variables i x (kept scope.vars (v ∷ []) i x at); inputs = e.inputs; marker = e.marker }

pub same_functions : (scope next : Scope) → Grows scope next → (P : List Signature → Type 0) → P scope.functions → P next.functions
same_functions scope _ same P h = h
same_functions scope _ (more v) P h = h
