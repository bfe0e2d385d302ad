-- The steps of places, with the values of their indexes and keys.
use Rattle.std.specs.Prelude.{◌≡◌, ◌+◌, ◌<◌, ◌≤◌, ℕ, IsTrue, List, [], ◌∷◌, ◌++◌, length, drop}
use Rattle.std.proofs.Common.{refl, sym, ap, ◌∙◌, subst, get_or, append_assoc, append-nil}
use Rattle.std.proofs.lemmas.List.{drop_all}
use Rattle.spl_value.specs.declared.types.SplType.{SplType}
use Rattle.spl_value.specs.declared.value.Value.{Value}
use Rattle.spl_value.specs.Calls.{Gives}
use Rattle.spl_value.specs.Values.{fits}
use Rattle.spl_tree.specs.declared.body.Function.{Function}
use Rattle.spl_tree.specs.declared.code.Code.{Code}
use Rattle.spl_tree.specs.declared.code.Slot.{Slot}
use Rattle.spl_tree.specs.declared.code.Selector.{Selector}
use Rattle.spl_tree.specs.declared.code.Selector.TheVariants as K
use Rattle.language_model.specs.declared.env.Env.{Env}
use Rattle.language_model.specs.declared.scope.Scope.{Scope}
use Rattle.language_model.specs.Changes.{step_of}
use Rattle.language_model.specs.CodeFits.{StepsLead}
use Rattle.language_model.specs.Evaluation.{code_value, world_of, taken}
use Rattle.language_model.specs.EvaluationLaws.{taking_meaning}
use Rattle.language_model.specs.Functions.{bodies_of}
use Rattle.language_model.specs.parts.Functions.{calls_of}
use Rattle.language_model.specs.Outcomes.{Outcome, Done, followed, settled}
use Rattle.language_model.specs.Statements.{State, Bodies, calls_by, value_in, step_value, steps_taken}
use Rattle.language_model.specs.parts.Statements.{step_values}
use Rattle.language_model.specs.ValueLaws.{NeverStuckLaw}
use Rattle.value_operations.specs.Answers.{StopsAs}
use Rattle.value_operations.specs.declared.stop.Stop.{Stop}
use Rattle.expr_eval.specs.Fitting.{FitTakings}
use Rattle.expr_eval.specs.Running.{IsIn, StepsAreFit, state}
use Rattle.value_operations.specs.Taking.{StepFits}
use Rattle.value_operations.proofs.Following.{followed_followed, followed_done, stops_by}
use Rattle.expr_eval.proofs.Answering.{stops_within}
use Rattle.expr_eval.proofs.Rows.{IsRow, appends, past, on, stop}
use Rattle.expr_eval.proofs.StepParts.{steps, one_step, has_member, has_elements, has_keys}
use Rattle.expr_eval.proofs.ValueTypes.{taken_of_type}
use Rattle.spl_value.proofs.Lists.{drop_at}
use Rattle.language_model.proofs.Returning.{done_followed}

-- ---- one step

module _ (bodies : Bodies) (s : State) (turns : ℕ) (v : Value) where
  -- a step in an expression takes what the step of a place takes
  taken_is : (t : Selector (Code Slot)) → taken (taking_meaning (calls_by bodies) t) v (world_of s.env) turns ≡ followed (step_value bodies t s turns) (λ step turns. settled (step_of step v) turns)
  taken_is (K.Member i) = refl
  taken_is (K.Element x) = sym (followed_followed (value_in bodies x s turns) (λ n turns. Done (K.Element n) turns) (λ step turns. settled (step_of step v) turns))
  taken_is (K.AtKey x) = sym (followed_followed (value_in bodies x s turns) (λ n turns. Done (K.AtKey n) turns) (λ step turns. settled (step_of step v) turns))

-- ---- steps that aren't taken

module _ (bodies : Bodies) (s : State) where
  abbrev value_of_step : Selector (Code Slot) → ℕ → Outcome (Selector Value)
  value_of_step t turns = step_value bodies t s turns

  steps_row : IsRow value_of_step (λ ts turns. step_values bodies ts s turns)
  steps_row = record { none = λ turns. refl; more = λ t ts turns. refl }

  abbrev pub steps_from : List (Selector (Code Slot)) → ℕ → List (Selector Value) → ℕ → Outcome (List (Selector Value))
  steps_from ts i done turns = followed (step_values bodies (drop i ts) s turns) (λ more turns. Done (done ++ more) turns)

  pub steps_start : (ts : List (Selector (Code Slot))) (done : List (Selector Value)) (turns : ℕ) → done ≡ [] → step_values bodies ts s turns ≡ steps_from ts 0 done turns
  steps_start ts done turns e = sym (followed_done (step_values bodies ts s turns)) ∙ ap (λ done. steps_from ts 0 done turns) (sym e)

  module _ (ts : List (Selector (Code Slot))) (i : ℕ) (done : List (Selector Value)) (turns : ℕ) where
    pub steps_past : length ts ≤ i → steps_from ts i done turns ≡ Done done turns
    steps_past = past value_of_step (λ ts turns. step_values bodies ts s turns) steps_row (λ zs ys. zs ++ ys) (λ zs y. zs ++ y ∷ []) appends ts i done turns

    module _ (t : Selector (Code Slot)) (h : i < length ts) (e : t ≡ get_or ts i t) where
      pub steps_on : (step : Selector Value) (left : ℕ) (new : List (Selector Value)) → step_value bodies t s turns ≡ Done step left → new ≡ done ++ step ∷ []
          → steps_from ts i done turns ≡ steps_from ts (i + 1) new left
      steps_on = on value_of_step (λ ts turns. step_values bodies ts s turns) steps_row (λ zs ys. zs ++ ys) (λ zs y. zs ++ y ∷ []) appends ts i done turns t h e

      pub steps_stop : (p : Stop) → StopsAs (step_value bodies t s turns) p → StopsAs (steps_from ts i done turns) p
      steps_stop = stop value_of_step (λ ts turns. step_values bodies ts s turns) steps_row (λ zs ys. zs ++ ys) (λ zs y. zs ++ y ∷ []) appends ts i done turns t h e

module _ (functions : List Function) (env : Env) (ts : List (Selector (Code Slot))) (i : ℕ) (h : StepsAreFit functions (drop i ts) env)
    (step : Selector (Code Slot)) (lt : i < length ts) (is : step ≡ get_or ts i step) where
  split : (m : SplType) × StepsLead h.0 (step ∷ []) h.1 m × StepsLead h.0 (drop (i + 1) ts) m h.2
  split = one_step h.0 step (drop (i + 1) ts) h.1 h.2 (steps h.0 (step ∷ drop (i + 1) ts) h.1 h.2 (subst (λ ts. StepsLead h.0 ts h.1 h.2) (drop_at ts i step lt is) h.3))

  pub next_step_is_fit : StepsAreFit functions (step ∷ []) env
  next_step_is_fit = (h.0, h.1, split.0, split.1, h.4)

  pub later_steps_are_fit : StepsAreFit functions (drop (i + 1) ts) env
  later_steps_are_fit = (h.0, split.0, h.2, split.2, h.4)

-- ---- steps that are taken

-- what the steps ask of the value from which they begin
abbrev pub StepsFrom : List Function → List (Selector (Code Slot)) → Env → Value → Type 0
StepsFrom functions ts env v = (scope : Scope) × (t : SplType) × (u : SplType) × StepsLead scope ts t u × IsTrue (fits t v) × IsIn functions env scope

module _ (bodies : Bodies) (s : State) where
  abbrev pub taken_from : List (Selector (Code Slot)) → ℕ → Value → List (Selector Value) → ℕ → Outcome (List (Selector Value))
  taken_from ts i v done turns = followed (steps_taken bodies (drop i ts) v s turns) (λ more turns. Done (done ++ more) turns)

  pub taken_start : (ts : List (Selector (Code Slot))) (v : Value) (done : List (Selector Value)) (turns : ℕ) → done ≡ [] → steps_taken bodies ts v s turns ≡ taken_from ts 0 v done turns
  taken_start ts v done turns e = sym (followed_done (steps_taken bodies ts v s turns)) ∙ ap (λ done. taken_from ts 0 v done turns) (sym e)

  module _ (ts : List (Selector (Code Slot))) (i : ℕ) (v : Value) (done : List (Selector Value)) (turns : ℕ) where
    pub taken_past : length ts ≤ i → taken_from ts i v done turns ≡ Done done turns
    taken_past h = ap (λ ts. followed (steps_taken bodies ts v s turns) (λ more turns. Done (done ++ more) turns)) (drop_all i ts h) ∙ ap (λ done. Done done turns) (append-nil done)

    module _ (t : Selector (Code Slot)) (h : i < length ts) (e : t ≡ get_or ts i t) where
      abbrev after : Selector Value → Value → ℕ → Outcome (List (Selector Value))
      after step u turns = taken_from ts (i + 1) u (done ++ step ∷ []) turns

      abbrev others : Selector Value → Value → ℕ → Outcome (List (Selector Value))
      others step u turns = followed (steps_taken bodies (drop (i + 1) ts) u s turns) (λ steps turns. Done (step ∷ steps) turns)

      put_behind : (step : Selector Value) (u : Value) (turns : ℕ) → followed (others step u turns) (λ more turns. Done (done ++ more) turns) ≡ after step u turns
      put_behind step u turns =
          followed_followed (steps_taken bodies (drop (i + 1) ts) u s turns) (λ steps turns. Done (step ∷ steps) turns) (λ more turns. Done (done ++ more) turns)
          ∙ (λ j. followed (steps_taken bodies (drop (i + 1) ts) u s turns) (λ more turns. Done (sym (append_assoc done (step ∷ []) more) j) turns))

      step_taken : (step : Selector Value) (turns : ℕ) → followed (followed (settled (step_of step v) turns) (others step)) (λ more turns. Done (done ++ more) turns)
          ≡ followed (settled (step_of step v) turns) (after step)
      step_taken step turns =
          followed_followed (settled (step_of step v) turns) (others step) (λ more turns. Done (done ++ more) turns)
          ∙ (λ j. followed (settled (step_of step v) turns) (λ u turns. put_behind step u turns j))

      rest : taken_from ts i v done turns ≡ followed (step_value bodies t s turns) (λ step turns. followed (settled (step_of step v) turns) (after step))
      rest =
          ap (λ ts. followed (steps_taken bodies ts v s turns) (λ more turns. Done (done ++ more) turns)) (drop_at ts i t h e)
          ∙ followed_followed (step_value bodies t s turns) (λ step turns. followed (settled (step_of step v) turns) (others step)) (λ more turns. Done (done ++ more) turns)
          ∙ (λ j. followed (step_value bodies t s turns) (λ step turns. step_taken step turns j))

      pub taken_stop : (p : Stop) → StopsAs (followed (step_value bodies t s turns) (λ step turns. settled (step_of step v) turns)) p → StopsAs (taken_from ts i v done turns) p
      taken_stop p d = stops_by (taken_from ts i v done turns) _ p rest (stops_within (step_value bodies t s turns) (λ step turns. settled (step_of step v) turns) after p d)

      module _ (step : Selector Value) (left : ℕ) (is : step_value bodies t s turns ≡ Done step left) where
        with_step : taken_from ts i v done turns ≡ followed (settled (step_of step v) left) (after step)
        with_step = rest ∙ ap (λ o. followed o (λ step turns. followed (settled (step_of step v) turns) (after step))) is

        pub taken_on : (u : Value) (new : List (Selector Value)) → step_of step v ≡ Gives u → new ≡ done ++ step ∷ [] → taken_from ts i v done turns ≡ taken_from ts (i + 1) u new left
        taken_on u new gives n =
            with_step ∙ ap (λ o. followed (settled o left) (after step)) gives ∙ ap (λ done. taken_from ts (i + 1) u done left) (sym n)

module _ (functions : List Function) (env : Env) where
  takings_are_fit : (ts : List (Selector (Code Slot))) (v : Value) → StepsFrom functions ts env v → FitTakings functions ts env v
  takings_are_fit ts v h = (h.0, h.1, h.2, h.3, h.4, h.5.0.env_fits, h.5.1)

  module _ (law : NeverStuckLaw) (depth : ℕ) where
    step_fits_at : (t : Selector (Code Slot)) (v : Value) → FitTakings functions (t ∷ []) env v → (turns left : ℕ) (step : Selector Value)
        → step_value (bodies_of functions depth) t (state env []) turns ≡ Done step left → StepFits step v
    step_fits_at (K.Member i) v h turns left step e = let same : K.Member i ≡ step = cc in subst (λ step. StepFits step v) same (has_member functions env (K.Member i) v h i refl)
    step_fits_at (K.Element x) v h turns left step e =
        let n = done_followed (code_value (calls_of functions depth) x (world_of env) turns) (λ n turns. Done (K.Element n) turns) step left e in
        let same : K.Element n.0 ≡ step = cc (n.3) in
        subst (λ step. StepFits step v) same (has_elements functions env (K.Element x) v h law depth turns n.1 x n.0 n.2 refl)
    step_fits_at (K.AtKey x) v h turns left step e =
        let k = done_followed (code_value (calls_of functions depth) x (world_of env) turns) (λ k turns. Done (K.AtKey k) turns) step left e in
        let same : K.AtKey k.0 ≡ step = cc (k.3) in
        subst (λ step. StepFits step v) same (has_keys functions env (K.AtKey x) v h law depth turns k.1 x k.0 k.2 refl)

  module _ (ts : List (Selector (Code Slot))) (i : ℕ) (v : Value) (h : StepsFrom functions (drop i ts) env v) (t : Selector (Code Slot)) (lt : i < length ts) (is : t ≡ get_or ts i t) where
    parted : (m : SplType) × StepsLead h.0 (t ∷ []) h.1 m × StepsLead h.0 (drop (i + 1) ts) m h.2
    parted = one_step h.0 t (drop (i + 1) ts) h.1 h.2 (steps h.0 (t ∷ drop (i + 1) ts) h.1 h.2 (subst (λ ts. StepsLead h.0 ts h.1 h.2) (drop_at ts i t lt is) h.3))

    pub first_step_is_fit : StepsAreFit functions (t ∷ []) env
    first_step_is_fit = (h.0, h.1, parted.0, parted.1, h.5)

    module _ (law : NeverStuckLaw) (depth turns left : ℕ) (step : Selector Value) (e : step_value (bodies_of functions depth) t (state env []) turns ≡ Done step left) where
      pub step_fits : StepFits step v
      step_fits = step_fits_at law depth t v (takings_are_fit (t ∷ []) v (h.0, h.1, parted.0, parted.1, h.4, h.5)) turns left step e

      pub others_fit : (u : Value) → step_of step v ≡ Gives u → StepsFrom functions (drop (i + 1) ts) env u
      others_fit u gives =
          let comes : taken (taking_meaning (calls_of functions depth) t) v (world_of env) turns ≡ Done u left =
          taken_is (bodies_of functions depth) (state env []) turns v t ∙ ap (λ o. followed o (λ step turns. settled (step_of step v) turns)) e ∙ ap (λ o. settled o left) gives in
          (h.0, parted.0, h.2, parted.2, taken_of_type law functions env depth h.0 h.5.0.env_fits h.5.1 t h.1 parted.0 parted.1 v h.4 turns left u comes, h.5)
