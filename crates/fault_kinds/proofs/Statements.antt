-- The results of statements and bodies, where calls of functions have no faults but those of evaluation.
use Rattle.std.specs.Prelude.{◌≡◌, ℕ, zero, suc, List, [], ◌∷◌, map, Option, None, Some, slice_get}
use Rattle.std.specs.List.{AllByRecursion}
use Rattle.std.proofs.Common.{refl}
use Rattle.spl_value.specs.declared.item.FaultKind.TheVariants as X
use Rattle.spl_value.specs.declared.value.Value.{Value}
use Rattle.spl_value.specs.declared.value.Value.TheViews.{out-Value}
use Rattle.spl_tree.specs.declared.body.Change.{Change}
use Rattle.spl_tree.specs.declared.body.Change.TheVariants as H
use Rattle.spl_tree.specs.declared.body.Place.{Place}
use Rattle.spl_tree.specs.declared.body.Statement.{Statement}
use Rattle.spl_tree.specs.declared.body.Statement.TheVariants as T
use Rattle.spl_tree.specs.declared.code.Code.{Code}
use Rattle.spl_tree.specs.declared.code.Slot.{Slot}
use Rattle.spl_tree.specs.declared.code.Selector.{Selector}
use Rattle.spl_tree.specs.declared.code.Selector.TheVariants as G
use Rattle.language_model.specs.declared.env.Env.{Env}
use Rattle.language_model.specs.declared.flow.Flow.{Flow}
use Rattle.language_model.specs.declared.flow.Flow.TheVariants as F
use Rattle.language_model.specs.Changes.{step_of, changed, change_of}
use Rattle.language_model.specs.Evaluation.{all_of, code_value, world_of}
use Rattle.language_model.specs.parts.Operators.{truth_of}
use Rattle.language_model.specs.Outcomes.{Outcome, Done, Faulted, followed, need, settled}
use Rattle.language_model.specs.StatementLaws.{arms_act, block_is, declare_is, change_is, evaluate_is, call_is, if_is, while_is, for_is, break_is, continue_is, return_is, submit_is, submit_window_is}
use Rattle.language_model.specs.Statements.{State, Acts, Bodies, returned_by, body_leaves, calls_by, value_in, truth_in, declared, scoped, step_value, steps_taken, change_value, change_values, then_rest, then_again, turn_while, turns_while, turns_over, level_elements, level_tuple}
use Rattle.language_model.specs.parts.Statements.{step_values, changed_at, return_acts, statement_acts, row_acts}
use Rattle.language_model.proofs.StatementInduction.{OfArm, StatementSteps, statement_ind}
use Rattle.fault_kinds.proofs.Outcomes.{Own, own_followed, own_need, own_enter, own_either, own_by, own_settled}
use Rattle.fault_kinds.proofs.Calls.{own_step, own_changed, own_change}
use Rattle.fault_kinds.proofs.Codes.{own_code}

module _ (bodies : Bodies) (c : (i : ℕ) (values : List Value) (turns : ℕ) → Own (bodies i values turns)) where
  pub own_calls : (i : ℕ) (values : List Value) (turns : ℕ) → Own (calls_by bodies i values turns)
  own_calls i values turns = own_followed (bodies i values turns) _ (c i values turns) (λ returned turns. own_need returned _ (λ v. tt))

  own_value : (code : Code Slot) (s : State) (turns : ℕ) → Own (value_in bodies code s turns)
  own_value code s = own_code (calls_by bodies) own_calls (world_of s.env) code

  own_truth : (code : Code Slot) (s : State) (turns : ℕ) → Own (truth_in bodies code s turns)
  own_truth code s turns = own_followed (value_in bodies code s turns) _ (own_value code s turns) (λ v turns. own_need (truth_of v) _ (λ b. tt))

  own_values : (codes : List (Code Slot)) (s : State) (turns : ℕ) → Own (all_of (map (code_value (calls_by bodies)) codes) (world_of s.env) turns)
  own_values [] s turns = tt
  own_values (x ∷ codes) s turns =
      own_followed (value_in bodies x s turns) _ (own_value x s turns) (λ v turns.
      own_followed (all_of (map (code_value (calls_by bodies)) codes) (world_of s.env) turns) _ (own_values codes s turns) (λ vs turns. tt))

  abbrev OwnActs : Acts → Type 0
  OwnActs m = (s : State) (turns : ℕ) → Own (m s turns)

  abbrev Follows : Statement → Type 0
  Follows x = OwnActs (statement_acts bodies x)

  follows_by : (x : Statement) (m : Acts) → ((s : State) (turns : ℕ) → statement_acts bodies x s turns ≡ m s turns) → OwnActs m → Follows x
  follows_by x m e h s turns = own_by (statement_acts bodies x s turns) (m s turns) (e s turns) (h s turns)

  -- ---- rows

  own_scoped : (m : Acts) → OwnActs m → OwnActs (scoped m)
  own_scoped m h s turns = own_followed (m s turns) _ (h s turns) (λ w turns. tt)

  own_rest : (m : Acts) → OwnActs m → (w : Flow × State) (turns : ℕ) → Own (then_rest w turns m)
  own_rest m h (F.Next, s) turns = h s turns
  own_rest m h (F.Broken, s) turns = tt
  own_rest m h (F.Continued, s) turns = tt
  own_rest m h (F.Returned v, s) turns = tt

  own_row : (row : List Statement) → AllByRecursion Follows row → OwnActs (row_acts bodies row)
  own_row [] h s turns = tt
  own_row (x ∷ row) h s turns = own_followed (statement_acts bodies x s turns) _ (h.0 s turns) (own_rest (row_acts bodies row) (own_row row h.1))

  own_arms : (arms : List (Code Slot × List Statement)) (other : List Statement) → AllByRecursion (OfArm Follows) arms → AllByRecursion Follows other
      → OwnActs (arms_act bodies arms other)
  own_arms [] other h k s turns = own_scoped (row_acts bodies other) (own_row other k) s turns
  own_arms (arm ∷ arms) other h k s turns =
      own_followed (truth_in bodies arm.0 s turns) _ (own_truth arm.0 s turns) (λ b turns.
      own_either b _ _ (own_scoped (row_acts bodies arm.1) (own_row arm.1 h.0) s turns) (own_arms arms other h.1 k s turns))

  -- ---- loops

  module _ (m : Acts) (h : OwnActs m) where
    own_again : (again : Acts) → OwnActs again → (w : Flow × State) (turns : ℕ) → Own (then_again w turns again)
    own_again again k (F.Next, s) turns = k s turns
    own_again again k (F.Continued, s) turns = k s turns
    own_again again k (F.Broken, s) turns = tt
    own_again again k (F.Returned v, s) turns = tt

    own_turn : (code : Code Slot) (again : Acts) → OwnActs again → OwnActs (turn_while bodies code m again)
    own_turn code again k s turns =
        own_followed (truth_in bodies code s turns) _ (own_truth code s turns) (λ b turns.
        own_either b _ _ (own_enter turns _ (λ turns. own_followed (m s turns) _ (h s turns) (own_again again k))) tt)

    own_loop : (code : Code Slot) (n : ℕ) → OwnActs (turns_while n bodies code m)
    own_loop code zero = own_turn code (λ s turns. Faulted X.Turns) (λ s turns. refl)
    own_loop code (suc n) = own_turn code (turns_while n bodies code m) (own_loop code n)

    own_over : (vs : List Value) → OwnActs (turns_over vs m)
    own_over [] s turns = tt
    own_over (v ∷ vs) s turns =
        own_enter turns _ (λ turns.
        own_followed (scoped (λ s turns. m (declared s v) turns) s turns) _ (own_scoped (λ s turns. m (declared s v) turns) (λ s turns. h (declared s v) turns) s turns)
        (own_again (turns_over vs m) (own_over vs)))

  -- ---- changes

  own_step_value : (t : Selector (Code Slot)) (s : State) (turns : ℕ) → Own (step_value bodies t s turns)
  own_step_value (G.Member i) s turns = tt
  own_step_value (G.Element code) s turns = own_followed (value_in bodies code s turns) _ (own_value code s turns) (λ v turns. tt)
  own_step_value (G.AtKey code) s turns = own_followed (value_in bodies code s turns) _ (own_value code s turns) (λ v turns. tt)

  own_step_values : (ts : List (Selector (Code Slot))) (s : State) (turns : ℕ) → Own (step_values bodies ts s turns)
  own_step_values [] s turns = tt
  own_step_values (t ∷ ts) s turns =
      own_followed (step_value bodies t s turns) _ (own_step_value t s turns) (λ step turns.
      own_followed (step_values bodies ts s turns) _ (own_step_values ts s turns) (λ steps turns. tt))

  own_taken : (ts : List (Selector (Code Slot))) (v : Value) (s : State) (turns : ℕ) → Own (steps_taken bodies ts v s turns)
  own_taken [] v s turns = tt
  own_taken (t ∷ ts) v s turns =
      own_followed (step_value bodies t s turns) _ (own_step_value t s turns) (λ step turns.
      own_followed (settled (step_of step v) turns) _ (own_settled (step_of step v) turns (own_step step v)) (λ u turns.
      own_followed (steps_taken bodies ts u s turns) _ (own_taken ts u s turns) (λ steps turns. tt)))

  own_change_value : (change : Change (Code Slot)) (s : State) (turns : ℕ) → Own (change_value bodies change s turns)
  own_change_value (H.Put code) s turns = own_followed (value_in bodies code s turns) _ (own_value code s turns) (λ v turns. tt)
  own_change_value (H.Append code) s turns = own_followed (value_in bodies code s turns) _ (own_value code s turns) (λ v turns. tt)
  own_change_value (H.Remove code) s turns = own_followed (value_in bodies code s turns) _ (own_value code s turns) (λ v turns. tt)
  own_change_value H.Clear s turns = tt

  module _ (place : Place) where
    -- of a change that evaluates the place first
    abbrev called_values : Change (Code Slot) → State → ℕ → Outcome (List (Selector Value) × Change Value)
    called_values change s turns =
        need (slice_get s.env.vars place.variable) (λ v.
        followed (steps_taken bodies place.takings v s turns) (λ steps turns.
        followed (change_value bodies change s turns) (λ change turns. Done (steps, change) turns)))

    own_called : (change : Change (Code Slot)) (s : State) (turns : ℕ) → Own (called_values change s turns)
    own_called change s turns =
        own_need (slice_get s.env.vars place.variable) _ (λ v.
        own_followed (steps_taken bodies place.takings v s turns) _ (own_taken place.takings v s turns) (λ steps turns.
        own_followed (change_value bodies change s turns) _ (own_change_value change s turns) (λ x turns. tt)))

    own_change_values : (change : Change (Code Slot)) (s : State) (turns : ℕ) → Own (change_values bodies place change s turns)
    own_change_values (H.Put code) s turns =
        own_followed (change_value bodies (H.Put code) s turns) _ (own_change_value (H.Put code) s turns) (λ x turns.
        own_followed (step_values bodies place.takings s turns) _ (own_step_values place.takings s turns) (λ steps turns. tt))
    own_change_values (H.Append code) s turns = own_called (H.Append code) s turns
    own_change_values (H.Remove code) s turns = own_called (H.Remove code) s turns
    own_change_values H.Clear s turns = own_called H.Clear s turns

    own_changed_at : (steps : List (Selector Value)) (change : Change Value) → OwnActs (changed_at place.variable steps change)
    own_changed_at steps change s turns =
        own_need (slice_get s.env.vars place.variable) _ (λ old.
        own_followed (settled (changed steps (change_of change) (Some old)) turns) _
        (own_settled (changed steps (change_of change) (Some old)) turns (own_changed steps (change_of change) (own_change change) (Some old))) (λ new turns. tt))

  -- ---- statements

  own_return : (code : Option (Code Slot)) → OwnActs (return_acts bodies code)
  own_return None s turns = tt
  own_return (Some code) s turns = own_followed (value_in bodies code s turns) _ (own_value code s turns) (λ v turns. tt)

  own_steps : StatementSteps Follows
  own_steps = record {
    block = λ row h. follows_by (T.Block row) _ (block_is bodies row) (own_scoped (row_acts bodies row) (own_row row h));
    declare = λ code. follows_by (T.Declare code) _ (declare_is bodies code) (λ s turns.
        own_followed (value_in bodies code s turns) _ (own_value code s turns) (λ v turns. tt));
    change = λ place change. follows_by (T.Change place change) _ (change_is bodies place change) (λ s turns.
        own_followed (change_values bodies place change s turns) _ (own_change_values place change s turns) (λ w turns. own_changed_at place w.0 w.1 s turns));
    evaluate = λ code. follows_by (T.Evaluate code) _ (evaluate_is bodies code) (λ s turns.
        own_followed (value_in bodies code s turns) _ (own_value code s turns) (λ v turns. tt));
    call = λ i codes. follows_by (T.Call i codes) _ (call_is bodies i codes) (λ s turns.
        own_followed (all_of (map (code_value (calls_by bodies)) codes) (world_of s.env) turns) _ (own_values codes s turns) (λ values turns.
        own_enter turns _ (λ turns. own_followed (bodies i values turns) _ (c i values turns) (λ returned turns. tt))));
    if_true = λ arms other h k. follows_by (T.If arms other) _ (if_is bodies arms other) (own_arms arms other h k);
    while = λ code row h. follows_by (T.While code row) _ (while_is bodies code row) (λ s turns.
        own_loop (scoped (row_acts bodies row)) (own_scoped (row_acts bodies row) (own_row row h)) code turns s turns);
    for_each = λ code row h. follows_by (T.For code row) _ (for_is bodies code row) (λ s turns.
        own_followed (value_in bodies code s turns) _ (own_value code s turns) (λ v turns.
        own_need (level_elements (out-Value v)) _ (λ values. own_over (row_acts bodies row) (own_row row h) values s turns)));
    break = follows_by T.Break _ (break_is bodies) (λ s turns. tt);
    continue = follows_by T.Continue _ (continue_is bodies) (λ s turns. tt);
    return = λ code. follows_by (T.Return code) _ (return_is bodies code) (own_return code);
    submit = λ port code. follows_by (T.Submit port code) _ (submit_is bodies port code) (λ s turns.
        own_followed (value_in bodies code s turns) _ (own_value code s turns) (λ v turns. own_need (level_tuple (out-Value v)) _ (λ values. tt)));
    submit_window = λ port. follows_by (T.SubmitWindow port) _ (submit_window_is bodies port) (λ s turns. tt);
  }

  pub own_statement : (x : Statement) → Follows x
  own_statement = statement_ind Follows own_steps

  all_follow : (row : List Statement) → AllByRecursion Follows row
  all_follow [] = tt
  all_follow (x ∷ row) = (own_statement x, all_follow row)

  pub own_body : (row : List Statement) (env : Env) (turns : ℕ) → Own (body_leaves bodies row env turns)
  own_body row env turns =
      own_followed (scoped (row_acts bodies row) (record { env = env; submits = [] }) turns) _
      (own_scoped (row_acts bodies row) (own_row row (all_follow row)) (record { env = env; submits = [] }) turns) (λ w turns.
      own_need (returned_by w.0) _ (λ v. tt))
