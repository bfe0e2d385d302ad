-- The variable of a loop: the scope of its body has one more, and after a turn there are those that were there before.
use Rattle.std.specs.Prelude.{◌≡◌, ◌<◌, ◌+◌, ℕ, zero, suc, IsTrue, List, [], ◌∷◌, ◌++◌, length, take, Some, slice_get}
use Rattle.std.proofs.Common.{refl, sym, ap, ◌∙◌, subst, arith}
use Rattle.std.proofs.lemmas.List.{length-take, length-append}
use Rattle.std.proofs.lemmas.Option.{slice_get_within}
use Rattle.spl_value.specs.declared.value.Value.{Value}
use Rattle.spl_value.specs.Values.{fits}
use Rattle.language_model.specs.declared.env.Env.{Env}
use Rattle.language_model.specs.declared.flow.Flow.{Flow}
use Rattle.language_model.specs.declared.scope.Scope.{Scope}
use Rattle.language_model.specs.declared.scope.Variable.{Variable}
use Rattle.language_model.specs.BodyFits.{with_variable}
use Rattle.language_model.specs.Outcomes.{Outcome, Done, Faulted, Stuck, followed, enter}
use Rattle.language_model.specs.Statements.{State, declared}
use Rattle.language_model.proofs.parts.Statements.{ended}
use Rattle.language_model.specs.WorldFits.{VariablesFit, LeadsTo}
use Rattle.language_model.proofs.Variables.{kept}

-- an environment with other variables
abbrev pub with_values : Env → List Value → Env
with_values env vars = record { inputs = env.inputs; vars = vars; punct = env.punct }

-- a variable has a value of its type
abbrev HasValue : Variable → List Value → ℕ → Type 0
HasValue x vs i = (v : Value) × (slice_get vs i ≡ Some v) × IsTrue (fits x.kind v)

abbrev EachHas : List Variable → List Value → Type 0
EachHas xs vs = (i : ℕ) (x : Variable) → slice_get xs i ≡ Some x → HasValue x vs i

each_added : (xs : List Variable) (vs : List Value) (x : Variable) (v : Value) → length vs ≡ length xs → EachHas xs vs → IsTrue (fits x.kind v)
    → EachHas (xs ++ x ∷ []) (vs ++ v ∷ [])
each_added [] [] x v e h f zero y at = let same : x ≡ y = cc in (v, refl, subst (λ (x : Variable). IsTrue (fits x.kind v)) same f)
each_added [] [] x v e h f (suc i) y at = absurd cc
each_added [] (u ∷ vs) x v e h f i y at = absurd cc
each_added (z ∷ xs) [] x v e h f i y at = absurd cc
each_added (z ∷ xs) (u ∷ vs) x v e h f zero y at = h zero y at
each_added (z ∷ xs) (u ∷ vs) x v e h f (suc i) y at = each_added xs vs x v (omega arith) (λ i y at. h (suc i) y at) f i y at

-- a value that is among the first `n` of more than `i` is so among fewer
among_fewer : (n m i : ℕ) (vs : List Value) (v : Value) → i < m → slice_get (take n vs) i ≡ Some v → slice_get (take m vs) i ≡ Some v
among_fewer zero m i vs v lt at = absurd cc
among_fewer (suc n) zero i vs v lt at = absurd (omega arith)
among_fewer (suc n) (suc m) i [] v lt at = at
among_fewer (suc n) (suc m) zero (u ∷ vs) v lt at = at
among_fewer (suc n) (suc m) (suc i) (u ∷ vs) v lt at = among_fewer n m i vs v (omega arith) at

pub declared_fit : (scope : Scope) (env : Env) (x : Variable) (v : Value) → VariablesFit scope env → IsTrue (fits x.kind v)
    → VariablesFit (with_variable scope x) (with_values env (env.vars ++ v ∷ []))
declared_fit scope env x v h f = record {
  env_fits = record { variables = each_added scope.vars env.vars x v h.count h.env_fits.variables f; inputs = h.env_fits.inputs; marker = h.env_fits.marker };
  count = length-append env.vars (v ∷ []) ∙ ap (λ n. n + 1) h.count ∙ sym (length-append scope.vars (x ∷ []));
}

-- the variables that are left after a turn
module _ (scope : Scope) (x : Variable) (v : Value) (before env : Env) (h : VariablesFit scope before)
    (more : VariablesFit (with_variable scope x) (with_values env (take (length (before.vars ++ v ∷ [])) env.vars))) where
  left_has : (i : ℕ) (y : Variable) → slice_get scope.vars i ≡ Some y → HasValue y (take (length before.vars) env.vars) i
  left_has i y at =
      let has = more.env_fits.variables i y (kept scope.vars (x ∷ []) i y at) in
      let within : i < length scope.vars = slice_get_within scope.vars i y at in
      let fewer : i < length before.vars = omega (arith, h.count) in
      (has.0, among_fewer (length (before.vars ++ v ∷ [])) (length before.vars) i env.vars has.0 fewer has.1, has.2)

  ended_fit : VariablesFit scope (with_values env (take (length before.vars) env.vars))
  ended_fit = record {
    env_fits = record { variables = left_has; inputs = more.env_fits.inputs; marker = more.env_fits.marker };
    count =
        let many : length (take (length (before.vars ++ v ∷ [])) env.vars) ≡ length (scope.vars ++ x ∷ []) = more.count in
        omega (arith, many, h.count, length-take (length (before.vars ++ v ∷ [])) env.vars, length-take (length before.vars) env.vars, length-append before.vars (v ∷ []), length-append scope.vars (x ∷ []));
  }

pub without_variable : (scope : Scope) (x : Variable) (v : Value) (s : State) → VariablesFit scope s.env → (o : Outcome (Flow × State))
    → LeadsTo (with_variable scope x) (followed o (λ w turns. Done (w.0, ended (declared s v) w.1) turns))
    → LeadsTo scope (followed o (λ w turns. Done (w.0, ended s w.1) turns))
without_variable scope x v s h (Done w turns) more = ended_fit scope x v s.env w.1.env h more
without_variable scope x v s h (Faulted kind) more = tt
without_variable scope x v s h Stuck more = more

pub entered_leads : (scope : Scope) (turns : ℕ) (f : ℕ → Outcome (Flow × State)) → ((turns : ℕ) → LeadsTo scope (f turns)) → LeadsTo scope (enter turns f)
entered_leads scope zero f h = tt
entered_leads scope (suc turns) f h = h turns
