-- Changes of places: the values that they come to, and what those ask of the variable.
use Rattle.std.specs.Prelude.{◌≡◌, ◌<◌, ℕ, IsTrue, List, [], ◌∷◌, length, Some, slice_get, Result}
use Rattle.std.proofs.Common.{refl, sym, ap, ◌∙◌, subst, inl, inr, get_or}
use Rattle.std.proofs.lemmas.Option.{slice_get_read, slice_get_within}
use Rattle.spl_value.specs.declared.types.SplType.{SplType}
use Rattle.spl_value.specs.declared.types.SplType.TheVariants as S
use Rattle.spl_value.specs.declared.value.Value.{Value}
use Rattle.spl_value.specs.Calls.{CallOutcome, Gives, Faults, Unfit}
use Rattle.spl_value.specs.Values.{fits}
use Rattle.spl_tree.specs.declared.body.Change.{Change}
use Rattle.spl_tree.specs.declared.body.Change.TheVariants as H
use Rattle.spl_tree.specs.declared.body.Function.{Function}
use Rattle.spl_tree.specs.declared.body.Place.{Place}
use Rattle.spl_tree.specs.declared.code.Code.{Code}
use Rattle.spl_tree.specs.declared.code.Slot.{Slot}
use Rattle.spl_tree.specs.declared.code.Selector.{Selector}
use Rattle.spl_tree.specs.declared.code.Selector.TheVariants as K
use Rattle.language_model.specs.declared.env.Env.{Env}
use Rattle.language_model.specs.declared.flow.Flow.{Flow}
use Rattle.language_model.specs.declared.outs.Output.{Output}
use Rattle.language_model.specs.declared.scope.Scope.{Scope}
use Rattle.language_model.specs.declared.scope.Variable.{Variable}
use Rattle.language_model.specs.BodyFits as B
use Rattle.language_model.specs.BodyFits.{PlaceFits, ChangeFits}
use Rattle.language_model.specs.Changes.{step_of}
use Rattle.language_model.specs.CodeFits as F
use Rattle.language_model.specs.CodeFits.{CodeFits, StepsLead}
use Rattle.language_model.specs.Functions.{bodies_of}
use Rattle.language_model.specs.Outcomes.{Outcome, Done, followed, need, settled}
use Rattle.language_model.specs.Statements.{State, Bodies, value_in, step_value, steps_taken, change_value, change_values}
use Rattle.language_model.specs.parts.Statements.{step_values, changed_at, change_acts}
use Rattle.language_model.specs.ValueLaws.{NeverStuckLaw}
use Rattle.value_operations.specs.Answers.{StopsAs, Answers}
use Rattle.value_operations.specs.Changing as C
use Rattle.value_operations.specs.Changing.{StepsLeadTo, ArgumentFits}
use Rattle.value_operations.specs.steps.Places.{CanChangeAt}
use Rattle.value_operations.specs.declared.stop.Stop.{Stop}
use Rattle.expr_eval.specs.Running.{IsIn, PlaceIsFit, ChangeIsFit, LeadsNext, state}
use Rattle.value_operations.proofs.Following.{followed_followed, followed_stops, answers_by, stops_by}
use Rattle.expr_eval.proofs.StepValues.{StepsFrom, taken_from, taken_start}
use Rattle.expr_eval.proofs.ValueTypes.{of_type}
use Rattle.language_model.proofs.Returning.{done_followed}

-- ---- what fits

module _ (scope : Scope) where
  -- the variable of a place, and where the steps lead from there
  place_parts : (place : Place) (t : SplType) → PlaceFits scope place t
      → (x : Variable) × (slice_get scope.vars place.variable ≡ Some x) × StepsLead scope place.takings x.kind t
  place_parts _ _ (B.in_variable place x t at named mutable h) = (x, at, h)

-- what the variable holds
module _ (functions : List Function) (place : Place) (env : Env) (h : PlaceIsFit functions place env) where
  at_variable : (x : Variable) × (slice_get h.0.vars place.variable ≡ Some x) × StepsLead h.0 place.takings x.kind h.1
  at_variable = place_parts h.0 place h.1 h.2

  pub variable_holds : (v : Value) × (slice_get env.vars place.variable ≡ Some v) × StepsFrom functions place.takings env v
  variable_holds =
      let v = h.3.0.env_fits.variables place.variable at_variable.0 at_variable.1 in
      (v.0, v.1, (h.0, at_variable.0.kind, h.1, at_variable.2, v.2, h.3))

-- the steps begin from what is read of the variable
module _ (functions : List Function) (place : Place) (env : Env) (h : PlaceIsFit functions place env) (vs : List Value) (same : vs ≡ env.vars) where
  abbrev there : (v : Value) × (slice_get env.vars place.variable ≡ Some v) × StepsFrom functions place.takings env v
  there = variable_holds functions place env h

  pub variable_within : place.variable < length vs
  variable_within = subst (λ (vs : List Value). place.variable < length vs) (sym same) (slice_get_within env.vars place.variable there.0 there.1)

  module _ (x : Value) (read : x ≡ get_or vs place.variable x) where
    variable_read : slice_get env.vars place.variable ≡ Some x
    variable_read = ap (λ (vs : List Value). slice_get vs place.variable) (sym same) ∙ slice_get_read vs (length vs) place.variable x refl variable_within read

    it_is_read : (v : Value) → slice_get env.vars place.variable ≡ Some v → v ≡ x
    it_is_read v at = let both : Some v ≡ Some x = sym at ∙ variable_read in cc

    module _ (items : List (Selector (Code Slot))) (e : items ≡ place.takings) where
      pub steps_begin : StepsFrom functions items env x
      steps_begin = subst (λ items. StepsFrom functions items env x) (sym e) (subst (λ v. StepsFrom functions place.takings env v) (it_is_read there.0 there.1) there.2)

      pub taken_begins : (bodies : Bodies) (done : List (Selector Value)) → done ≡ [] → (turns : ℕ) (v : Value) → slice_get env.vars place.variable ≡ Some v
          → steps_taken bodies place.takings v (state env []) turns ≡ taken_from bodies (state env []) items 0 x done turns
      taken_begins bodies done none turns v at =
          ap (λ v. steps_taken bodies place.takings v (state env []) turns) (it_is_read v at)
          ∙ taken_start bodies (state env []) place.takings x done turns none
          ∙ ap (λ ts. taken_from bodies (state env []) ts 0 x done turns) (sym e)

-- ---- the values of a change

abbrev pub Changed : Type 0
Changed = List (Selector Value) × Change Value

module _ (bodies : Bodies) (s : State) where
  -- those of every change but an assignment
  abbrev with_argument : Change (Code Slot) → List (Selector Value) → ℕ → Outcome Changed
  with_argument change steps turns = followed (change_value bodies change s turns) (λ c turns. Done (steps, c) turns)

  abbrev by_place : Place → Change (Code Slot) → ℕ → Outcome Changed
  by_place place change turns = need (slice_get s.env.vars place.variable) (λ v. followed (steps_taken bodies place.takings v s turns) (with_argument change))

-- by what its parts answered
module _ (bodies : Bodies) (s : State) (place : Place) (turns : ℕ) where
  abbrev values_of : Change (Code Slot) → Outcome Changed
  values_of change = change_values bodies place change s turns

  module _ (change : Change (Code Slot)) (x : Code Slot) (is : change ≡ H.Put x) where
    abbrev put_behind : Change Value → ℕ → Outcome Changed
    put_behind change turns = followed (step_values bodies place.takings s turns) (λ steps turns. Done (steps, change) turns)

    pub put_stops : (p : Stop) → StopsAs (value_in bodies x s turns) p → StopsAs (values_of change) p
    put_stops p h =
        stops_by (values_of change) (values_of (H.Put x)) p (ap values_of is)
        (followed_stops (change_value bodies (H.Put x) s turns) put_behind p (followed_stops (value_in bodies x s turns) (λ v turns. Done (H.Put v) turns) p h))

    pub put_answers : (v : Value) (after : ℕ) → value_in bodies x s turns ≡ Done v after → (r : Result Changed Stop) (left : ℕ)
        → Answers (followed (step_values bodies place.takings s after) (λ steps left. Done (steps, H.Put v) left)) r left → Answers (values_of change) r left
    put_answers v after d r left h =
        answers_by (values_of change) _ r left (ap values_of is ∙ ap (λ o. followed (followed o (λ v turns. Done (H.Put v) turns)) put_behind) d) h

  -- of any other change
  module _ (change other : Change (Code Slot)) (is : change ≡ other) (goes_on : (v : Value) → values_of other ≡ by_place bodies s place other turns) (v : Value)
      (at : slice_get s.env.vars place.variable ≡ Some v) where
    after_steps : values_of change ≡ followed (steps_taken bodies place.takings v s turns) (with_argument bodies s other)
    after_steps = ap values_of is ∙ goes_on v ∙ ap (λ o. need o (λ v. followed (steps_taken bodies place.takings v s turns) (with_argument bodies s other))) at

    steps_stop : (p : Stop) → StopsAs (steps_taken bodies place.takings v s turns) p → StopsAs (values_of change) p
    steps_stop p h = stops_by (values_of change) _ p after_steps (followed_stops (steps_taken bodies place.takings v s turns) (with_argument bodies s other) p h)

    argument_answers : (steps : List (Selector Value)) (after : ℕ) → steps_taken bodies place.takings v s turns ≡ Done steps after → (r : Result Changed Stop) (left : ℕ)
        → Answers (with_argument bodies s other steps after) r left → Answers (values_of change) r left
    argument_answers steps after d r left h =
        answers_by (values_of change) _ r left (after_steps ∙ ap (λ o. followed o (with_argument bodies s other)) d) h

  module _ (change : Change (Code Slot)) (x : Code Slot) (v : Value) (at : slice_get s.env.vars place.variable ≡ Some v) where
    pub append_stops : change ≡ H.Append x → (p : Stop) → StopsAs (steps_taken bodies place.takings v s turns) p → StopsAs (values_of change) p
    append_stops is = steps_stop change (H.Append x) is (λ v. refl) v at

    pub remove_stops : change ≡ H.Remove x → (p : Stop) → StopsAs (steps_taken bodies place.takings v s turns) p → StopsAs (values_of change) p
    remove_stops is = steps_stop change (H.Remove x) is (λ v. refl) v at

    module _ (steps : List (Selector Value)) (after : ℕ) (d : steps_taken bodies place.takings v s turns ≡ Done steps after) (r : Result Changed Stop) (left : ℕ) where
      pub append_answers : change ≡ H.Append x → Answers (followed (value_in bodies x s after) (λ v left. Done (steps, H.Append v) left)) r left → Answers (values_of change) r left
      append_answers is h =
          argument_answers change (H.Append x) is (λ v. refl) v at steps after d r left
          (answers_by _ _ r left (followed_followed (value_in bodies x s after) (λ v turns. Done (H.Append v) turns) (λ c turns. Done (steps, c) turns)) h)

      pub remove_answers : change ≡ H.Remove x → Answers (followed (value_in bodies x s after) (λ v left. Done (steps, H.Remove v) left)) r left → Answers (values_of change) r left
      remove_answers is h =
          argument_answers change (H.Remove x) is (λ v. refl) v at steps after d r left
          (answers_by _ _ r left (followed_followed (value_in bodies x s after) (λ v turns. Done (H.Remove v) turns) (λ c turns. Done (steps, c) turns)) h)

  pub clear_answers : (change : Change (Code Slot)) → change ≡ H.Clear → (v : Value) → slice_get s.env.vars place.variable ≡ Some v → (r : Result Changed Stop) (left : ℕ)
      → Answers (followed (steps_taken bodies place.takings v s turns) (λ steps left. Done (steps, H.Clear) left)) r left → Answers (values_of change) r left
  clear_answers change is v at r left h = answers_by (values_of change) _ r left (after_steps change H.Clear is (λ v. refl) v at) h

-- ---- the values of a change that fits can be put to the variable

same_done : {A : Type 0} (o : Outcome A) (x y : A) (turns : ℕ) → o ≡ Done x turns → x ≡ y → o ≡ Done y turns
same_done o x y turns e same = e ∙ ap (λ x. Done x turns) same

-- what is settled takes no turn
no_turn : (o : CallOutcome) (turns left : ℕ) (v : Value) → settled o turns ≡ Done v left → turns ≡ left
no_turn (Gives u) turns left v e = cc
no_turn (Faults kind) turns left v e = absurd cc
no_turn Unfit turns left v e = absurd cc

module _ (bodies : Bodies) (s : State) where
  abbrev others : List (Selector (Code Slot)) → Selector Value → ℕ → Outcome (List (Selector Value))
  others ts step turns = followed (step_values bodies ts s turns) (λ steps turns. Done (step ∷ steps) turns)

  abbrev taken_others : List (Selector (Code Slot)) → Selector Value → Value → ℕ → Outcome (List (Selector Value))
  taken_others ts step u turns = followed (steps_taken bodies ts u s turns) (λ steps turns. Done (step ∷ steps) turns)

  one_more : (t : Selector (Code Slot)) (ts : List (Selector (Code Slot))) (turns after same_after end left : ℕ) (step : Selector Value) (more steps : List (Selector Value))
      → step_value bodies t s turns ≡ Done step after → after ≡ same_after → step_values bodies ts s same_after ≡ Done more end → Done (step ∷ more) end ≡ Done steps left
      → step_values bodies (t ∷ ts) s turns ≡ Done steps left
  one_more t ts turns after same_after end left step more steps e same d all =
      ap (λ o. followed o (others ts)) e ∙ ap (others ts step) same ∙ ap (λ o. followed o (λ steps turns. Done (step ∷ steps) turns)) d ∙ all

  -- steps that are taken have the same values
  same_steps : (ts : List (Selector (Code Slot))) (v : Value) (turns left : ℕ) (steps : List (Selector Value)) → steps_taken bodies ts v s turns ≡ Done steps left
      → step_values bodies ts s turns ≡ Done steps left
  same_steps [] v turns left steps e = e
  same_steps (t ∷ ts) v turns left steps e =
      let first = done_followed (step_value bodies t s turns) (λ step turns. followed (settled (step_of step v) turns) (taken_others ts step)) steps left e in
      let taken = done_followed (settled (step_of first.0 v) first.1) (taken_others ts first.0) steps left first.3 in
      let more = done_followed (steps_taken bodies ts taken.0 s taken.1) (λ steps turns. Done (first.0 ∷ steps) turns) steps left taken.3 in
      one_more t ts turns first.1 taken.1 more.1 left first.0 more.0 steps first.2 (no_turn (step_of first.0 v) first.1 taken.1 taken.0 taken.2)
      (same_steps ts taken.0 taken.1 more.1 more.0 more.2) more.3

module _ (law : NeverStuckLaw) (functions : List Function) (depth : ℕ) (env : Env) (scope : Scope) (is : IsIn functions env scope) where
  abbrev bodies : Bodies
  bodies = bodies_of functions depth

  value_fits : (x : Code Slot) (t : SplType) → CodeFits scope x t → (turns left : ℕ) (v : Value) → value_in bodies x (state env []) turns ≡ Done v left → IsTrue (fits t v)
  value_fits x t f = of_type law functions env depth x t (record { scope = scope; code_fits = f; env_fits = is.0.env_fits; functions_fit = is.1 })

  -- the values of steps lead where the steps do
  values_lead : (ts : List (Selector (Code Slot))) (t u : SplType) → StepsLead scope ts t u → (turns left : ℕ) (steps : List (Selector Value))
      → step_values bodies ts (state env []) turns ≡ Done steps left → StepsLeadTo steps t u
  values_lead _ _ _ (F.here t) turns left steps e = let same : [] ≡ steps = cc in subst (λ steps. StepsLeadTo steps t t) same (C.here t)
  values_lead _ _ _ (F.member i rest schema a u at h) turns left steps e =
      let more = done_followed (step_values bodies rest (state env []) turns) (λ steps turns. Done (K.Member i ∷ steps) turns) steps left e in
      let same : K.Member i ∷ more.0 ≡ steps = cc (more.3) in
      subst (λ steps. StepsLeadTo steps (S.Tuple schema) u) same (C.member i more.0 schema a u at (values_lead rest a.kind u h turns more.1 more.0 more.2))
  values_lead _ _ _ (F.index x rest k t u f h) turns left steps e =
      let step = done_followed (step_value bodies (K.Element x) (state env []) turns) (others bodies (state env []) rest) steps left e in
      let n = done_followed (value_in bodies x (state env []) turns) (λ v turns. Done (K.Element v) turns) step.0 step.1 step.2 in
      let more = done_followed (step_values bodies rest (state env []) step.1) (λ steps turns. Done (step.0 ∷ steps) turns) steps left step.3 in
      let same_step : K.Element n.0 ≡ step.0 = cc (n.3) in
      let same : K.Element n.0 ∷ more.0 ≡ steps = cc (more.3, same_step) in
      subst (λ steps. StepsLeadTo steps (S.List t) u) same (C.index n.0 more.0 k t u (value_fits x (S.Int k) f turns n.1 n.0 n.2) (values_lead rest t u h step.1 more.1 more.0 more.2))
  values_lead _ _ _ (F.at_key x rest k t u f h) turns left steps e =
      let step = done_followed (step_value bodies (K.AtKey x) (state env []) turns) (others bodies (state env []) rest) steps left e in
      let n = done_followed (value_in bodies x (state env []) turns) (λ v turns. Done (K.AtKey v) turns) step.0 step.1 step.2 in
      let more = done_followed (step_values bodies rest (state env []) step.1) (λ steps turns. Done (step.0 ∷ steps) turns) steps left step.3 in
      let same_step : K.AtKey n.0 ≡ step.0 = cc (n.3) in
      let same : K.AtKey n.0 ∷ more.0 ≡ steps = cc (more.3, same_step) in
      subst (λ steps. StepsLeadTo steps (S.Map k t) u) same (C.at_key n.0 more.0 k t u (value_fits x k f turns n.1 n.0 n.2) (values_lead rest t u h step.1 more.1 more.0 more.2))

  argument_fits : (change : Change (Code Slot)) (t : SplType) → ChangeFits scope change t → (turns left : ℕ) (c : Change Value)
      → change_value bodies change (state env []) turns ≡ Done c left → ArgumentFits c t
  argument_fits _ _ (B.puts x t f) turns left c e =
      let v = done_followed (value_in bodies x (state env []) turns) (λ v turns. Done (H.Put v) turns) c left e in
      let same : H.Put v.0 ≡ c = cc (v.3) in
      subst (λ c. ArgumentFits c t) same (value_fits x t f turns v.1 v.0 v.2)
  argument_fits _ _ (B.appends x t f) turns left c e =
      let v = done_followed (value_in bodies x (state env []) turns) (λ v turns. Done (H.Append v) turns) c left e in
      let same : H.Append v.0 ≡ c = cc (v.3) in
      subst (λ c. ArgumentFits c (S.List t)) same (t, refl, value_fits x t f turns v.1 v.0 v.2)
  argument_fits _ _ (B.removes x k t f) turns left c e =
      let v = done_followed (value_in bodies x (state env []) turns) (λ v turns. Done (H.Remove v) turns) c left e in
      let same : H.Remove v.0 ≡ c = cc (v.3) in
      subst (λ c. ArgumentFits c (S.Map k t)) same (k, t, refl, value_fits x k f turns v.1 v.0 v.2)
  argument_fits _ _ (B.clears_list t) turns left c e = let same : H.Clear ≡ c = cc in subst (λ c. ArgumentFits c (S.List t)) same (inl (t, refl))
  argument_fits _ _ (B.clears_map k t) turns left c e = let same : H.Clear ≡ c = cc in subst (λ c. ArgumentFits c (S.Map k t)) same (inr (k, t, refl))

  -- the values of an assignment, and those of a call
  abbrev Comes : Place → Change (Code Slot) → List (Selector Value) → Change Value → Type 0
  Comes place change steps c =
      (mid : ℕ) × (left : ℕ) × (at : ℕ) × (end : ℕ) × (step_values bodies place.takings (state env []) mid ≡ Done steps left) × (change_value bodies change (state env []) at ≡ Done c end)

  put_comes : (place : Place) (x : Code Slot) (turns left : ℕ) (w : Changed) → change_values bodies place (H.Put x) (state env []) turns ≡ Done w left
      → Comes place (H.Put x) w.0 w.1
  put_comes place x turns left w e =
      let c = done_followed (change_value bodies (H.Put x) (state env []) turns) (λ change turns. followed (step_values bodies place.takings (state env []) turns) (λ steps turns. Done (steps, change) turns)) w left e in
      let more = done_followed (step_values bodies place.takings (state env []) c.1) (λ steps turns. Done (steps, c.0) turns) w left c.3 in
      let steps_same : more.0 ≡ w.0 = cc (more.3) in
      let change_same : c.0 ≡ w.1 = cc (more.3) in (
        c.1,
        more.1,
        turns,
        c.1,
        same_done (step_values bodies place.takings (state env []) c.1) more.0 w.0 more.1 more.2 steps_same,
        same_done (change_value bodies (H.Put x) (state env []) turns) c.0 w.1 c.1 c.2 change_same,
      )

  call_comes : (place : Place) (change : Change (Code Slot)) (turns left : ℕ) (w : Changed) (v : Value) → slice_get env.vars place.variable ≡ Some v
      → by_place bodies (state env []) place change turns ≡ Done w left → Comes place change w.0 w.1
  call_comes place change turns left w v at e =
      let e : followed (steps_taken bodies place.takings v (state env []) turns) (with_argument bodies (state env []) change) ≡ Done w left =
      sym (ap (λ o. need o (λ v. followed (steps_taken bodies place.takings v (state env []) turns) (with_argument bodies (state env []) change))) at) ∙ e in
      let more = done_followed (steps_taken bodies place.takings v (state env []) turns) (with_argument bodies (state env []) change) w left e in
      let c = done_followed (change_value bodies change (state env []) more.1) (λ change turns. Done (more.0, change) turns) w left more.3 in
      let steps_same : more.0 ≡ w.0 = cc (c.3) in
      let change_same : c.0 ≡ w.1 = cc (c.3) in (
        turns,
        more.1,
        more.1,
        c.1,
        same_done (step_values bodies place.takings (state env []) turns) more.0 w.0 more.1 (same_steps bodies (state env []) place.takings v turns more.1 more.0 more.2) steps_same,
        same_done (change_value bodies change (state env []) more.1) c.0 w.1 c.1 c.2 change_same,
      )

  comes : (place : Place) (change : Change (Code Slot)) (turns left : ℕ) (w : Changed) (v : Value) → slice_get env.vars place.variable ≡ Some v
      → change_values bodies place change (state env []) turns ≡ Done w left → Comes place change w.0 w.1
  comes place (H.Put x) turns left w v at e = put_comes place x turns left w e
  comes place (H.Append x) turns left w v at e = call_comes place (H.Append x) turns left w v at e
  comes place (H.Remove x) turns left w v at e = call_comes place (H.Remove x) turns left w v at e
  comes place H.Clear turns left w v at e = call_comes place H.Clear turns left w v at e

module _ (law : NeverStuckLaw) (functions : List Function) (depth : ℕ) (place : Place) (env : Env) (change : Change (Code Slot)) (h : ChangeIsFit functions place change env)
    (turns left : ℕ) (w : Changed) (e : change_values (bodies_of functions depth) place change (state env []) turns ≡ Done w left) where
  pub can_change : CanChangeAt place.variable w.0 w.1 env
  unfolding variable_holds
  can_change =
      let there = variable_holds functions place env (h.0, h.1, h.2, h.4) in
      let p = place_parts h.0 place h.1 h.2 in
      let c = comes law functions depth env h.0 h.4 place change turns left w there.0 there.1 e in (
        there.0,
        there.1,
        (
          there.2.1,
          h.1,
          there.2.4,
          values_lead law functions depth env h.0 h.4 place.takings there.2.1 h.1 there.2.3 c.0 c.1 w.0 c.4,
          argument_fits law functions depth env h.0 h.4 change h.1 h.3 c.2 c.3 w.1 c.5,
        ),
      )

-- ---- what has been submitted doesn't count

module _ (bodies : Bodies) (env : Env) (submits : List Output) where
  any_step : (t : Selector (Code Slot)) (turns : ℕ) → step_value bodies t (state env submits) turns ≡ step_value bodies t (state env []) turns
  any_step (K.Member i) turns = refl
  any_step (K.Element x) turns = refl
  any_step (K.AtKey x) turns = refl

  any_steps : (ts : List (Selector (Code Slot))) (turns : ℕ) → step_values bodies ts (state env submits) turns ≡ step_values bodies ts (state env []) turns
  any_steps [] turns = refl
  any_steps (t ∷ ts) turns =
      ap (λ o. followed o (others bodies (state env submits) ts)) (any_step t turns)
      ∙ (λ j. followed (step_value bodies t (state env []) turns) (λ step turns. followed (any_steps ts turns j) (λ steps turns. Done (step ∷ steps) turns)))

  any_taken : (ts : List (Selector (Code Slot))) (v : Value) (turns : ℕ) → steps_taken bodies ts v (state env submits) turns ≡ steps_taken bodies ts v (state env []) turns
  any_taken [] v turns = refl
  any_taken (t ∷ ts) v turns =
      ap (λ o. followed o (λ step turns. followed (settled (step_of step v) turns) (taken_others bodies (state env submits) ts step))) (any_step t turns)
      ∙ (λ j. followed (step_value bodies t (state env []) turns) (λ step turns.
      followed (settled (step_of step v) turns) (λ u turns. followed (any_taken ts u turns j) (λ steps turns. Done (step ∷ steps) turns))))

  any_argument : (c : Change (Code Slot)) (turns : ℕ) → change_value bodies c (state env submits) turns ≡ change_value bodies c (state env []) turns
  any_argument (H.Put x) turns = refl
  any_argument (H.Append x) turns = refl
  any_argument (H.Remove x) turns = refl
  any_argument H.Clear turns = refl

  any_by_place : (place : Place) (c : Change (Code Slot)) (turns : ℕ) → by_place bodies (state env submits) place c turns ≡ by_place bodies (state env []) place c turns
  any_by_place place c turns = λ j. need (slice_get env.vars place.variable) (λ v.
      followed (any_taken place.takings v turns j) (λ steps turns. followed (any_argument c turns j) (λ change turns. Done (steps, change) turns)))

  any_change : (place : Place) (c : Change (Code Slot)) (turns : ℕ) → change_values bodies place c (state env submits) turns ≡ change_values bodies place c (state env []) turns
  any_change place (H.Put x) turns = λ j. followed (change_value bodies (H.Put x) (state env []) turns) (λ change turns.
      followed (any_steps place.takings turns j) (λ steps turns. Done (steps, change) turns))
  any_change place (H.Append x) turns = any_by_place place (H.Append x) turns
  any_change place (H.Remove x) turns = any_by_place place (H.Remove x) turns
  any_change place H.Clear turns = any_by_place place H.Clear turns

  module _ (place : Place) (change : Change (Code Slot)) (turns : ℕ) where
    abbrev put_to : Changed → ℕ → Outcome (Flow × State)
    put_to w turns = changed_at place.variable w.0 w.1 (state env submits) turns

    -- the values, and what is done with them
    pub place_changes : change_acts bodies place change (state env submits) turns ≡ followed (change_values bodies place change (state env []) turns) put_to
    place_changes = ap (λ o. followed o put_to) (any_change place change turns)

-- ---- answers

pub leads_next_by : (o p : Outcome (Flow × State)) (r : Result (Unit {0}) Stop) (s : State) (turns : ℕ) → o ≡ p → LeadsNext p r s turns → LeadsNext o r s turns
leads_next_by o p r s turns e h = subst (λ o. LeadsNext o r s turns) (sym e) h
