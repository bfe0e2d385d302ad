-- What selectors need, step by step.
use Rattle.std.specs.Prelude.{◌≡◌, ◌+◌, ◌<◌, ℕ, IsTrue, List, [], ◌∷◌, length, drop, Some, slice_get}
use Rattle.std.proofs.Common.{refl, sym, subst, get_or}
use Rattle.spl_value.specs.declared.types.IntKind.{IntKind}
use Rattle.spl_value.specs.declared.types.Named.{Named}
use Rattle.spl_value.specs.declared.types.SplType.{SplType}
use Rattle.spl_value.specs.declared.types.SplType.TheVariants as S
use Rattle.spl_value.specs.declared.value.Value.{Value}
use Rattle.spl_value.specs.Values.{fits}
use Rattle.spl_tree.specs.declared.code.Code.{Code}
use Rattle.spl_tree.specs.declared.body.Function.{Function}
use Rattle.spl_tree.specs.declared.code.Slot.{Slot}
use Rattle.spl_tree.specs.declared.code.Selector.{Selector}
use Rattle.spl_tree.specs.declared.code.Selector.TheVariants as K
use Rattle.language_model.specs.declared.env.Env.{Env}
use Rattle.language_model.specs.declared.scope.Scope.{Scope}
use Rattle.language_model.specs.CodeFits as F
use Rattle.language_model.specs.CodeFits.{CodeFits, StepsLead}
use Rattle.language_model.specs.Evaluation.{code_value, world_of, taken}
use Rattle.language_model.specs.parts.Functions.{calls_of}
use Rattle.language_model.specs.EvaluationLaws.{taking_meaning}
use Rattle.language_model.specs.Outcomes.{Done}
use Rattle.language_model.specs.ValueLaws.{NeverStuckLaw}
use Rattle.language_model.specs.WorldFits.{Fits}
use Rattle.expr_eval.specs.Fitting.{IsFit, FitTakings}
use Rattle.value_operations.specs.Taking.{HasMember, HasElements, HasKeys}
use Rattle.expr_eval.proofs.ValueTypes.{of_type, taken_of_type}
use Rattle.spl_value.proofs.Lists.{drop_at}

-- the type that the first selector needs, and where the others lead from there
abbrev pub Steps : Scope → List (Selector (Code Slot)) → SplType → SplType → Type 0
Steps scope [] t u = Unit {0}
Steps scope (K.Member i ∷ rest) t u = (schema : List (Named SplType)) × (a : Named SplType) × (t ≡ S.Tuple schema) × (slice_get schema i ≡ Some a) × StepsLead scope rest a.kind u
Steps scope (K.Element x ∷ rest) t u = (k : IntKind) × (v : SplType) × (t ≡ S.List v) × CodeFits scope x (S.Int k) × StepsLead scope rest v u
Steps scope (K.AtKey x ∷ rest) t u = (k : SplType) × (v : SplType) × (t ≡ S.Map k v) × CodeFits scope x k × StepsLead scope rest v u

module _ (scope : Scope) where
  pub steps : (ts : List (Selector (Code Slot))) (t u : SplType) → StepsLead scope ts t u → Steps scope ts t u
  steps _ _ _ (F.here t) = tt
  steps _ _ _ (F.member i rest schema a u at h) = (schema, a, refl, at, h)
  steps _ _ _ (F.index x rest k t u f h) = (k, t, refl, f, h)
  steps _ _ _ (F.at_key x rest k t u f h) = (k, t, refl, f, h)

  -- a step, and those after it
  pub one_step : (step : Selector (Code Slot)) (rest : List (Selector (Code Slot))) (t u : SplType) → Steps scope (step ∷ rest) t u
      → (v : SplType) × StepsLead scope (step ∷ []) t v × StepsLead scope rest v u
  one_step (K.Member i) rest t u h = (h.1.kind, subst (λ t. StepsLead scope (K.Member i ∷ []) t h.1.kind) (sym h.2) (F.member i [] h.0 h.1 h.1.kind h.3 (F.here h.1.kind)), h.4)
  one_step (K.Element x) rest t u h = (h.1, subst (λ t. StepsLead scope (K.Element x ∷ []) t h.1) (sym h.2) (F.index x [] h.0 h.1 h.1 h.3 (F.here h.1)), h.4)
  one_step (K.AtKey x) rest t u h = (h.1, subst (λ t. StepsLead scope (K.AtKey x ∷ []) t h.1) (sym h.2) (F.at_key x [] h.0 h.1 h.1 h.3 (F.here h.1)), h.4)

-- ---- one taking

module _ (functions : List Function) (env : Env) (taking : Selector (Code Slot)) (v : Value) (h : FitTakings functions (taking ∷ []) env v) where
  step_at : (step : Selector (Code Slot)) → taking ≡ step → Steps h.0 (step ∷ []) h.1 h.2
  step_at step is = subst (λ step. Steps h.0 (step ∷ []) h.1 h.2) is (steps h.0 (taking ∷ []) h.1 h.2 h.3)

  of_kind : (t : SplType) → h.1 ≡ t → IsTrue (fits t v)
  of_kind t e = subst (λ t. IsTrue (fits t v)) e h.4

  pub has_member : (i : ℕ) → taking ≡ K.Member i → HasMember i v
  has_member i is = let p : Steps h.0 (K.Member i ∷ []) h.1 h.2 = step_at (K.Member i) is in (p.0, p.1, p.3, of_kind (S.Tuple p.0) p.2)

  fit : (x : Code Slot) (t : SplType) → CodeFits h.0 x t → Fits functions x env t
  fit x t f = record { scope = h.0; code_fits = f; env_fits = h.5; functions_fit = h.6 }

  pub index_is_fit : (x : Code Slot) → taking ≡ K.Element x → IsFit functions x env
  index_is_fit x is = let p : Steps h.0 (K.Element x ∷ []) h.1 h.2 = step_at (K.Element x) is in (S.Int p.0, fit x (S.Int p.0) p.3)

  pub key_is_fit : (x : Code Slot) → taking ≡ K.AtKey x → IsFit functions x env
  key_is_fit x is = let p : Steps h.0 (K.AtKey x ∷ []) h.1 h.2 = step_at (K.AtKey x) is in (p.0, fit x p.0 p.3)

  module _ (law : NeverStuckLaw) (depth turns left : ℕ) (x : Code Slot) (n : Value) (e : code_value (calls_of functions depth) x (world_of env) turns ≡ Done n left) where
    pub has_elements : taking ≡ K.Element x → HasElements v n
    has_elements is =
        let p : Steps h.0 (K.Element x ∷ []) h.1 h.2 = step_at (K.Element x) is in
        (p.1, p.0, of_kind (S.List p.1) p.2, of_type law functions env depth x (S.Int p.0) (fit x (S.Int p.0) p.3) turns left n e)

    pub has_keys : taking ≡ K.AtKey x → HasKeys v n
    has_keys is =
        let p : Steps h.0 (K.AtKey x ∷ []) h.1 h.2 = step_at (K.AtKey x) is in
        (p.0, p.1, of_kind (S.Map p.0 p.1) p.2, of_type law functions env depth x p.0 (fit x p.0 p.3) turns left n e)

-- ---- several takings

module _ (functions : List Function) (env : Env) (ts : List (Selector (Code Slot))) (i : ℕ) (v : Value) (h : FitTakings functions (drop i ts) env v)
    (step : Selector (Code Slot)) (lt : i < length ts) (is : step ≡ get_or ts i step) where
  split : (m : SplType) × StepsLead h.0 (step ∷ []) h.1 m × StepsLead h.0 (drop (i + 1) ts) m h.2
  split = one_step h.0 step (drop (i + 1) ts) h.1 h.2 (steps h.0 (step ∷ drop (i + 1) ts) h.1 h.2 (subst (λ ts. StepsLead h.0 ts h.1 h.2) (drop_at ts i step lt is) h.3))

  pub first_is_fit : FitTakings functions (step ∷ []) env v
  first_is_fit = (h.0, h.1, split.0, split.1, h.4, h.5, h.6)

  pub others_are_fit : (law : NeverStuckLaw) (depth turns left : ℕ) (u : Value) → taken (taking_meaning (calls_of functions depth) step) v (world_of env) turns ≡ Done u left
      → FitTakings functions (drop (i + 1) ts) env u
  others_are_fit law depth turns left u e =
      (h.0, split.0, h.2, split.2, taken_of_type law functions env depth h.0 h.5 h.6 step h.1 split.0 split.1 v h.4 turns left u e, h.5, h.6)
