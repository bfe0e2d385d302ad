-- What a statement leads to, by what its parts answered.
use Rattle.std.specs.Prelude.{◌≡◌, ℕ, List, Result, Some}
use Rattle.std.specs.Result.{IsErrAnd}
use Rattle.std.proofs.Common.{ap, ◌∙◌}
use Rattle.spl_value.specs.declared.item.Item.TheVariants as I
use Rattle.spl_value.specs.declared.value.Value.{Value}
use Rattle.spl_value.specs.declared.value.Value.TheViews.{out-Value}
use Rattle.spl_tree.specs.declared.body.Change.{Change}
use Rattle.spl_tree.specs.declared.body.Place.{Place}
use Rattle.spl_tree.specs.declared.body.Statement.{Statement}
use Rattle.spl_tree.specs.declared.body.Statement.TheVariants as T
use Rattle.spl_tree.specs.declared.code.Code.{Code}
use Rattle.spl_tree.specs.declared.code.Slot.{Slot}
use Rattle.language_model.specs.declared.flow.Flow.{Flow}
use Rattle.language_model.specs.declared.flow.Flow.TheVariants as F
use Rattle.language_model.specs.Evaluation.{world_of}
use Rattle.language_model.specs.EvaluationLaws.{values_of}
use Rattle.language_model.specs.Outcomes.{Outcome, Done, followed, need, enter}
use Rattle.language_model.specs.Statements.{State, Bodies, calls_by, value_in, declared, scoped, submitted, turns_while, level_tuple}
use Rattle.language_model.specs.parts.Statements.{change_acts, statement_acts, row_acts}
use Rattle.language_model.specs.StatementLaws.{arms_act, declare_is, change_is, evaluate_is, call_is, if_is, while_is, return_is, submit_is, submit_window_is}
use Rattle.value_operations.specs.Answers.{StopsAs}
use Rattle.expr_eval.specs.Running.{Leads}
use Rattle.value_operations.specs.declared.stop.Stop.{Stop}
use Rattle.value_operations.proofs.Following.{enter_followed, followed_stops, stops_by}
use Rattle.expr_eval.proofs.Leading.{leads_by, stops_leading}

module _ (bodies : Bodies) (x : Statement) (s : State) (turns : ℕ) where
  abbrev acts : Outcome (Flow × State)
  acts = statement_acts bodies x s turns

  -- by the equation of its form
  form : (y : Statement) (o : Outcome (Flow × State)) → x ≡ y → statement_acts bodies y s turns ≡ o → (r : Result Flow Stop) (to : State) (left : ℕ) → Leads o r to left → Leads acts r to left
  form y o is e r to left h = leads_by acts o r to left (ap (λ x. statement_acts bodies x s turns) is ∙ e) h

  pub declare_leads : (code : Code Slot) → x ≡ T.Declare code → (r : Result Flow Stop) (to : State) (left : ℕ)
      → Leads (followed (value_in bodies code s turns) (λ v turns. Done (F.Next, declared s v) turns)) r to left → Leads acts r to left
  declare_leads code is = form (T.Declare code) _ is (declare_is bodies code s turns)

  pub change_leads : (place : Place) (change : Change (Code Slot)) → x ≡ T.Change place change → (r : Result Flow Stop) (to : State) (left : ℕ)
      → Leads (change_acts bodies place change s turns) r to left → Leads acts r to left
  change_leads place change is = form (T.Change place change) _ is (change_is bodies place change s turns)

  pub evaluate_leads : (code : Code Slot) → x ≡ T.Evaluate code → (r : Result Flow Stop) (to : State) (left : ℕ)
      → Leads (followed (value_in bodies code s turns) (λ v turns. Done (F.Next, s) turns)) r to left → Leads acts r to left
  evaluate_leads code is = form (T.Evaluate code) _ is (evaluate_is bodies code s turns)

  module _ (i : ℕ) (codes : List (Code Slot)) (is : x ≡ T.Call i codes) where
    abbrev goes_on : List Value → ℕ → Outcome (Flow × State)
    goes_on values turns = enter turns (λ turns. followed (bodies i values turns) (λ returned turns. Done (F.Next, s) turns))

    call_form : statement_acts bodies x s turns ≡ followed (values_of (calls_by bodies) codes (world_of s.env) turns) goes_on
    call_form = ap (λ x. statement_acts bodies x s turns) is ∙ call_is bodies i codes s turns

    pub arguments_stopped : (r : Result Flow Stop) (to : State) (left : ℕ) (stop : Stop) → IsErrAnd r (λ y. y ≡ stop) → StopsAs (values_of (calls_by bodies) codes (world_of s.env) turns) stop
        → Leads (statement_acts bodies x s turns) r to left
    arguments_stopped r to left stop h q =
        stops_leading (statement_acts bodies x s turns) r to left stop h
        (stops_by (statement_acts bodies x s turns) _ stop call_form (followed_stops (values_of (calls_by bodies) codes (world_of s.env) turns) goes_on stop q))

    module _ (values : List Value) (after : ℕ) (d : values_of (calls_by bodies) codes (world_of s.env) turns ≡ Done values after) where
      called : statement_acts bodies x s turns ≡ followed (enter after (λ turns. bodies i values turns)) (λ returned turns. Done (F.Next, s) turns)
      called = call_form ∙ ap (λ o. followed o goes_on) d ∙ enter_followed after (λ turns. bodies i values turns) (λ returned turns. Done (F.Next, s) turns)

      pub function_leads : (r : Result Flow Stop) (to : State) (left : ℕ)
          → Leads (followed (enter after (λ turns. bodies i values turns)) (λ returned turns. Done (F.Next, s) turns)) r to left → Leads acts r to left
      function_leads r to left h = leads_by acts _ r to left called h

  pub if_leads : (arms : List (Code Slot × List Statement)) (other : List Statement) → x ≡ T.If arms other → (r : Result Flow Stop) (to : State) (left : ℕ)
      → Leads (arms_act bodies arms other s turns) r to left → Leads acts r to left
  if_leads arms other is = form (T.If arms other) _ is (if_is bodies arms other s turns)

  pub while_leads : (code : Code Slot) (row : List Statement) → x ≡ T.While code row → (r : Result Flow Stop) (to : State) (left : ℕ)
      → Leads (turns_while turns bodies code (scoped (row_acts bodies row)) s turns) r to left → Leads acts r to left
  while_leads code row is = form (T.While code row) _ is (while_is bodies code row s turns)

  pub return_leads : (code : Code Slot) → x ≡ T.Return (Some code) → (r : Result Flow Stop) (to : State) (left : ℕ)
      → Leads (followed (value_in bodies code s turns) (λ v turns. Done (F.Returned (Some v), s) turns)) r to left → Leads acts r to left
  return_leads code is = form (T.Return (Some code)) _ is (return_is bodies (Some code) s turns)

  pub submit_leads : (port : ℕ) (code : Code Slot) → x ≡ T.Submit port code → (r : Result Flow Stop) (to : State) (left : ℕ)
      → Leads (followed (value_in bodies code s turns) (λ v turns. need (level_tuple (out-Value v)) (λ values. Done (F.Next, submitted s port (I.Tuple values)) turns))) r to left
      → Leads acts r to left
  submit_leads port code is = form (T.Submit port code) _ is (submit_is bodies port code s turns)

  pub submit_window_leads : (port : ℕ) → x ≡ T.SubmitWindow port → (r : Result Flow Stop) (to : State) (left : ℕ)
      → Leads (Done (F.Next, submitted s port I.Window) turns) r to left → Leads acts r to left
  submit_window_leads port is = form (T.SubmitWindow port) _ is (submit_window_is bodies port s turns)
