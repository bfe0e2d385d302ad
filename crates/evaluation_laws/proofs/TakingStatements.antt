-- Statements and bodies take as many turns however many there are, where calls do.
use Rattle.std.specs.Prelude.{◌≡◌, ◌-◌, ◌≤◌, ℕ, zero, suc, List, [], ◌∷◌, map, Option, None, Some, slice_get, slice_set}
use Rattle.std.specs.List.{AllByRecursion}
use Rattle.std.proofs.Common.{arith}
use Rattle.spl_value.specs.declared.item.FaultKind.TheVariants as X
use Rattle.spl_value.specs.declared.item.Item.TheVariants as I
use Rattle.spl_value.specs.declared.value.Value.{Value}
use Rattle.spl_value.specs.declared.value.Value.TheViews.{out-Value}
use Rattle.spl_tree.specs.declared.body.Change.{Change}
use Rattle.spl_tree.specs.declared.body.Change.TheVariants as H
use Rattle.spl_tree.specs.declared.body.Place.{Place}
use Rattle.spl_tree.specs.declared.body.Statement.{Statement}
use Rattle.spl_tree.specs.declared.body.Statement.TheVariants as T
use Rattle.spl_tree.specs.declared.code.Code.{Code}
use Rattle.spl_tree.specs.declared.code.Slot.{Slot}
use Rattle.spl_tree.specs.declared.code.Selector.{Selector}
use Rattle.spl_tree.specs.declared.code.Selector.TheVariants as G
use Rattle.language_model.specs.declared.env.Env.{Env}
use Rattle.language_model.specs.declared.flow.Flow.{Flow}
use Rattle.language_model.specs.declared.flow.Flow.TheVariants as F
use Rattle.language_model.specs.Changes.{step_of, changed, change_of}
use Rattle.language_model.specs.Evaluation.{all_of, code_value, world_of}
use Rattle.language_model.specs.parts.Operators.{truth_of}
use Rattle.language_model.specs.Outcomes.{Outcome, Done, Faulted, followed, need, settled}
use Rattle.language_model.specs.StatementLaws.{arms_act, block_is, declare_is, change_is, evaluate_is, call_is, if_is, while_is, for_is, break_is, continue_is, return_is, submit_is, submit_window_is}
use Rattle.language_model.specs.Statements.{State, Acts, Bodies, returned_by, body_leaves, calls_by, value_in, truth_in, with_vars, declared, scoped, submitted, step_value, steps_taken, change_value, change_values, then_rest, then_again, turn_while, turns_while, turns_over, level_elements, level_tuple}
use Rattle.language_model.proofs.parts.Statements.{ended}
use Rattle.language_model.specs.parts.Statements.{step_values, changed_at, return_acts, statement_acts, row_acts}
use Rattle.language_model.proofs.StatementInduction.{OfArm, StatementSteps, statement_ind}
use Rattle.evaluation_laws.proofs.Taking.{Takes, takes_none, takes_followed, takes_need, takes_settled, takes_either, takes_by, takes_within, takes_any, takes_enter, takes_each}
use Rattle.evaluation_laws.proofs.TakingCodes.{codes_take}

module _ (deepest : ℕ) (bodies others : Bodies) (c : (i : ℕ) (values : List Value) (turns : ℕ) → Takes deepest turns (bodies i values turns) (others i values)) where
  pub calls_take : (i : ℕ) (values : List Value) (turns : ℕ) → Takes deepest turns (calls_by bodies i values turns) (calls_by others i values)
  calls_take i values turns =
      takes_followed deepest turns (bodies i values turns) _ _ _ (c i values turns) (λ returned turns.
      takes_need deepest turns returned _ _ (λ v. takes_none deepest v turns))

  value_takes : (code : Code Slot) (s : State) (turns : ℕ) → Takes (suc deepest) turns (value_in bodies code s turns) (value_in others code s)
  value_takes code s = codes_take deepest (calls_by bodies) (calls_by others) calls_take (world_of s.env) code

  truth_takes : (code : Code Slot) (s : State) (turns : ℕ) → Takes (suc deepest) turns (truth_in bodies code s turns) (truth_in others code s)
  truth_takes code s turns =
      takes_followed (suc deepest) turns (value_in bodies code s turns) _ _ _ (value_takes code s turns) (λ v turns.
      takes_need (suc deepest) turns (truth_of v) _ _ (λ b. takes_none (suc deepest) b turns))

  values_take : (codes : List (Code Slot)) (s : State) (turns : ℕ)
      → Takes (suc deepest) turns (all_of (map (code_value (calls_by bodies)) codes) (world_of s.env) turns) (all_of (map (code_value (calls_by others)) codes) (world_of s.env))
  values_take [] s turns = takes_none (suc deepest) [] turns
  values_take (x ∷ codes) s turns =
      takes_followed (suc deepest) turns (value_in bodies x s turns) _ _ _ (value_takes x s turns) (λ v turns.
      takes_followed (suc deepest) turns _ _ _ _ (values_take codes s turns) (λ vs turns. takes_none (suc deepest) (v ∷ vs) turns))

  -- the one takes what the other takes
  abbrev Alike : Acts → Acts → Type 0
  Alike m n = (s : State) (turns : ℕ) → Takes (suc deepest) turns (m s turns) (n s)

  abbrev Follows : Statement → Type 0
  Follows x = Alike (statement_acts bodies x) (statement_acts others x)

  stays : (flow : Flow) → Alike (λ s turns. Done (flow, s) turns) (λ s turns. Done (flow, s) turns)
  stays flow s turns = takes_none (suc deepest) (flow, s) turns

  -- by the equations of a form
  follows_by : (x : Statement) (m n : Acts) → ((s : State) (turns : ℕ) → statement_acts bodies x s turns ≡ m s turns)
      → ((s : State) (turns : ℕ) → statement_acts others x s turns ≡ n s turns) → Alike m n → Follows x
  follows_by x m n e f h s turns = takes_by (suc deepest) turns (statement_acts bodies x s turns) (m s turns) (statement_acts others x s) (n s) (e s turns) (f s) (h s turns)

  -- ---- rows

  scoped_take : (m n : Acts) → Alike m n → Alike (scoped m) (scoped n)
  scoped_take m n h s turns =
      takes_followed (suc deepest) turns (m s turns) _ _ _ (h s turns) (λ w turns. takes_none (suc deepest) (w.0, ended s w.1) turns)

  rest_takes : (m n : Acts) → Alike m n → (w : Flow × State) (turns : ℕ) → Takes (suc deepest) turns (then_rest w turns m) (λ turns. then_rest w turns n)
  rest_takes m n h (F.Next, s) turns = h s turns
  rest_takes m n h (F.Broken, s) turns = stays F.Broken s turns
  rest_takes m n h (F.Continued, s) turns = stays F.Continued s turns
  rest_takes m n h (F.Returned v, s) turns = stays (F.Returned v) s turns

  row_takes : (row : List Statement) → AllByRecursion Follows row → Alike (row_acts bodies row) (row_acts others row)
  row_takes [] h s turns = stays F.Next s turns
  row_takes (x ∷ row) h s turns =
      takes_followed (suc deepest) turns (statement_acts bodies x s turns) _ _ _ (h.0 s turns)
      (rest_takes (row_acts bodies row) (row_acts others row) (row_takes row h.1))

  arms_take : (arms : List (Code Slot × List Statement)) (other : List Statement) → AllByRecursion (OfArm Follows) arms → AllByRecursion Follows other
      → Alike (arms_act bodies arms other) (arms_act others arms other)
  arms_take [] other h k s turns = scoped_take (row_acts bodies other) (row_acts others other) (row_takes other k) s turns
  arms_take (arm ∷ arms) other h k s turns =
      takes_followed (suc deepest) turns (truth_in bodies arm.0 s turns) _ _ _ (truth_takes arm.0 s turns) (λ b turns.
      takes_either (suc deepest) turns b _ _ _ _ (scoped_take (row_acts bodies arm.1) (row_acts others arm.1) (row_takes arm.1 h.0) s turns) (arms_take arms other h.1 k s turns))

  -- ---- loops

  module _ (m n : Acts) (h : Alike m n) where
    again_takes : (most : ℕ) → most ≤ suc deepest → (again next : Acts) → ((s : State) (turns : ℕ) → Takes most turns (again s turns) (next s))
        → (w : Flow × State) (turns : ℕ) → Takes most turns (then_again w turns again) (λ turns. then_again w turns next)
    again_takes most le again next k (F.Next, s) turns = k s turns
    again_takes most le again next k (F.Continued, s) turns = k s turns
    again_takes most le again next k (F.Broken, s) turns = takes_none most (F.Next, s) turns
    again_takes most le again next k (F.Returned v, s) turns = takes_none most (F.Returned v, s) turns

    -- a turn, and the turns after it with one fewer
    turn_takes : (code : Code Slot) (most less : ℕ) → most ≤ suc less → less ≤ suc deepest → most ≤ suc deepest → (again next : Acts)
        → ((s : State) (turns : ℕ) → Takes less turns (again s turns) (next s))
        → (s : State) (turns : ℕ) → Takes most turns (turn_while bodies code m again s turns) (turn_while others code n next s)
    turn_takes code most less one few many again next k s turns =
        takes_followed most turns (truth_in bodies code s turns) _ _ _ (takes_within (suc deepest) most turns (truth_in bodies code s turns) _ many (truth_takes code s turns)) (λ b turns.
        takes_either most turns b _ _ _ _
        (takes_within (suc less) most turns _ _ one
        (takes_enter less turns _ _ (λ turns.
        takes_followed less turns (m s turns) _ _ _ (takes_within (suc deepest) less turns (m s turns) (n s) few (h s turns)) (again_takes less few again next k))))
        (takes_none most (F.Next, s) turns))

    -- at most k turns, and of the others at most `number`
    abbrev Loops : Code Slot → ℕ → Type 0
    Loops code k = (number most : ℕ) → most ≤ suc deepest → most ≤ suc number → (s : State) (turns : ℕ)
        → Takes most turns (turns_while k bodies code m s turns) (turns_while number others code n s)

    last_takes : (code : Code Slot) → Loops code zero
    last_takes code zero most many le = turn_takes code most (most - 1) (omega arith) (omega arith) many _ _ (λ s turns. tt)
    last_takes code (suc number) most many le = turn_takes code most (most - 1) (omega arith) (omega arith) many _ _ (λ s turns. tt)

    more_takes : (code : Code Slot) (k : ℕ) → Loops code k → Loops code (suc k)
    more_takes code k h zero most many le = turn_takes code most 0 (omega arith) (omega arith) many (turns_while k bodies code m) (λ s turns. Faulted X.Turns) (λ s turns.
        takes_any turns (turns_while k bodies code m s turns) (turns_while 0 others code n s) _ (h 0 0 (omega arith) (omega arith) s turns))
    more_takes code k h (suc number) most many le = turn_takes code most (most - 1) (omega arith) (omega arith) many (turns_while k bodies code m) (turns_while number others code n)
        (h number (most - 1) (omega arith) (omega arith))

    loop_takes : (code : Code Slot) (k : ℕ) → Loops code k
    loop_takes code zero = last_takes code
    loop_takes code (suc k) = more_takes code k (loop_takes code k)

    while_takes : (code : Code Slot) → Alike (λ s turns. turns_while turns bodies code m s turns) (λ s turns. turns_while turns others code n s turns)
    while_takes code s turns =
        takes_each (suc deepest) turns (turns_while turns bodies code m s turns) (λ number. turns_while number others code n s) (λ number less many le.
        loop_takes code turns number less many le s turns)

    over_takes : (vs : List Value) → Alike (turns_over vs m) (turns_over vs n)
    over_takes [] s turns = stays F.Next s turns
    over_takes (v ∷ vs) s turns =
        takes_within (suc (suc deepest)) (suc deepest) turns _ _ (omega arith)
        (takes_enter (suc deepest) turns _ _ (λ turns.
        takes_followed (suc deepest) turns _ _ _ _
        (scoped_take (λ s turns. m (declared s v) turns) (λ s turns. n (declared s v) turns) (λ s turns. h (declared s v) turns) s turns)
        (again_takes (suc deepest) (omega arith) (turns_over vs m) (turns_over vs n) (over_takes vs))))

  -- ---- changes

  step_takes : (t : Selector (Code Slot)) (s : State) (turns : ℕ) → Takes (suc deepest) turns (step_value bodies t s turns) (step_value others t s)
  step_takes (G.Member i) s turns = takes_none (suc deepest) (G.Member i) turns
  step_takes (G.Element code) s turns =
      takes_followed (suc deepest) turns (value_in bodies code s turns) _ _ _ (value_takes code s turns) (λ v turns. takes_none (suc deepest) (G.Element v) turns)
  step_takes (G.AtKey code) s turns =
      takes_followed (suc deepest) turns (value_in bodies code s turns) _ _ _ (value_takes code s turns) (λ v turns. takes_none (suc deepest) (G.AtKey v) turns)

  steps_take : (ts : List (Selector (Code Slot))) (s : State) (turns : ℕ) → Takes (suc deepest) turns (step_values bodies ts s turns) (step_values others ts s)
  steps_take [] s turns = takes_none (suc deepest) [] turns
  steps_take (t ∷ ts) s turns =
      takes_followed (suc deepest) turns (step_value bodies t s turns) _ _ _ (step_takes t s turns) (λ step turns.
      takes_followed (suc deepest) turns (step_values bodies ts s turns) _ _ _ (steps_take ts s turns) (λ steps turns. takes_none (suc deepest) (step ∷ steps) turns))

  taken_take : (ts : List (Selector (Code Slot))) (v : Value) (s : State) (turns : ℕ) → Takes (suc deepest) turns (steps_taken bodies ts v s turns) (steps_taken others ts v s)
  taken_take [] v s turns = takes_none (suc deepest) [] turns
  taken_take (t ∷ ts) v s turns =
      takes_followed (suc deepest) turns (step_value bodies t s turns) _ _ _ (step_takes t s turns) (λ step turns.
      takes_followed (suc deepest) turns (settled (step_of step v) turns) _ _ _ (takes_settled (suc deepest) (step_of step v) turns) (λ x turns.
      takes_followed (suc deepest) turns (steps_taken bodies ts x s turns) _ _ _ (taken_take ts x s turns) (λ steps turns. takes_none (suc deepest) (step ∷ steps) turns)))

  change_takes : (change : Change (Code Slot)) (s : State) (turns : ℕ) → Takes (suc deepest) turns (change_value bodies change s turns) (change_value others change s)
  change_takes (H.Put code) s turns =
      takes_followed (suc deepest) turns (value_in bodies code s turns) _ _ _ (value_takes code s turns) (λ v turns. takes_none (suc deepest) (H.Put v) turns)
  change_takes (H.Append code) s turns =
      takes_followed (suc deepest) turns (value_in bodies code s turns) _ _ _ (value_takes code s turns) (λ v turns. takes_none (suc deepest) (H.Append v) turns)
  change_takes (H.Remove code) s turns =
      takes_followed (suc deepest) turns (value_in bodies code s turns) _ _ _ (value_takes code s turns) (λ v turns. takes_none (suc deepest) (H.Remove v) turns)
  change_takes H.Clear s turns = takes_none (suc deepest) H.Clear turns

  module _ (place : Place) where
    -- of a change that evaluates the place first
    abbrev called_values : Bodies → Change (Code Slot) → State → ℕ → Outcome (List (Selector Value) × Change Value)
    called_values bodies change s turns =
        need (slice_get s.env.vars place.variable) (λ v.
        followed (steps_taken bodies place.takings v s turns) (λ steps turns.
        followed (change_value bodies change s turns) (λ change turns. Done (steps, change) turns)))

    called_takes : (change : Change (Code Slot)) (s : State) (turns : ℕ) → Takes (suc deepest) turns (called_values bodies change s turns) (called_values others change s)
    called_takes change s turns =
        takes_need (suc deepest) turns (slice_get s.env.vars place.variable) _ _ (λ v.
        takes_followed (suc deepest) turns (steps_taken bodies place.takings v s turns) _ _ _ (taken_take place.takings v s turns) (λ steps turns.
        takes_followed (suc deepest) turns (change_value bodies change s turns) _ _ _ (change_takes change s turns) (λ x turns. takes_none (suc deepest) (steps, x) turns)))

    changes_take : (change : Change (Code Slot)) (s : State) (turns : ℕ) → Takes (suc deepest) turns (change_values bodies place change s turns) (change_values others place change s)
    changes_take (H.Put code) s turns =
        takes_followed (suc deepest) turns (change_value bodies (H.Put code) s turns) _ _ _ (change_takes (H.Put code) s turns) (λ x turns.
        takes_followed (suc deepest) turns (step_values bodies place.takings s turns) _ _ _ (steps_take place.takings s turns) (λ steps turns. takes_none (suc deepest) (steps, x) turns))
    changes_take (H.Append code) s turns = called_takes (H.Append code) s turns
    changes_take (H.Remove code) s turns = called_takes (H.Remove code) s turns
    changes_take H.Clear s turns = called_takes H.Clear s turns

    changed_takes : (steps : List (Selector Value)) (change : Change Value) → Alike (changed_at place.variable steps change) (changed_at place.variable steps change)
    changed_takes steps change s turns =
        takes_need (suc deepest) turns (slice_get s.env.vars place.variable) _ _ (λ old.
        let called = changed steps (change_of change) (Some old) in
        takes_followed (suc deepest) turns (settled called turns) _ _ _ (takes_settled (suc deepest) called turns) (λ new turns.
        stays F.Next (with_vars s (slice_set s.env.vars place.variable new)) turns))

  -- ---- statements

  return_takes : (code : Option (Code Slot)) → Alike (return_acts bodies code) (return_acts others code)
  return_takes None s turns = stays (F.Returned None) s turns
  return_takes (Some code) s turns =
      takes_followed (suc deepest) turns (value_in bodies code s turns) _ _ _ (value_takes code s turns) (λ v turns. stays (F.Returned (Some v)) s turns)

  statement_steps : StatementSteps Follows
  statement_steps = record {
    block = λ row h. follows_by (T.Block row) _ _ (block_is bodies row) (block_is others row) (scoped_take (row_acts bodies row) (row_acts others row) (row_takes row h));
    declare = λ code. follows_by (T.Declare code) _ _ (declare_is bodies code) (declare_is others code) (λ s turns.
        takes_followed (suc deepest) turns (value_in bodies code s turns) _ _ _ (value_takes code s turns) (λ v turns. stays F.Next (declared s v) turns));
    change = λ place change. follows_by (T.Change place change) _ _ (change_is bodies place change) (change_is others place change) (λ s turns.
        takes_followed (suc deepest) turns (change_values bodies place change s turns) _ _ _ (changes_take place change s turns) (λ w turns. changed_takes place w.0 w.1 s turns));
    evaluate = λ code. follows_by (T.Evaluate code) _ _ (evaluate_is bodies code) (evaluate_is others code) (λ s turns.
        takes_followed (suc deepest) turns (value_in bodies code s turns) _ _ _ (value_takes code s turns) (λ v turns. stays F.Next s turns));
    call = λ i codes. follows_by (T.Call i codes) _ _ (call_is bodies i codes) (call_is others i codes) (λ s turns.
        takes_followed (suc deepest) turns _ _ _ _ (values_take codes s turns) (λ values turns.
        takes_enter deepest turns _ _ (λ turns.
        takes_followed deepest turns (bodies i values turns) _ _ _ (c i values turns) (λ returned turns. takes_none deepest (F.Next, s) turns))));
    if_true = λ arms other h k. follows_by (T.If arms other) _ _ (if_is bodies arms other) (if_is others arms other) (arms_take arms other h k);
    while = λ code row h. follows_by (T.While code row) _ _ (while_is bodies code row) (while_is others code row)
        (while_takes (scoped (row_acts bodies row)) (scoped (row_acts others row)) (scoped_take (row_acts bodies row) (row_acts others row) (row_takes row h)) code);
    for_each = λ code row h. follows_by (T.For code row) _ _ (for_is bodies code row) (for_is others code row) (λ s turns.
        takes_followed (suc deepest) turns (value_in bodies code s turns) _ _ _ (value_takes code s turns) (λ v turns.
        takes_need (suc deepest) turns (level_elements (out-Value v)) _ _ (λ values. over_takes (row_acts bodies row) (row_acts others row) (row_takes row h) values s turns)));
    break = follows_by T.Break _ _ (break_is bodies) (break_is others) (stays F.Broken);
    continue = follows_by T.Continue _ _ (continue_is bodies) (continue_is others) (stays F.Continued);
    return = λ code. follows_by (T.Return code) _ _ (return_is bodies code) (return_is others code) (return_takes code);
    submit = λ port code. follows_by (T.Submit port code) _ _ (submit_is bodies port code) (submit_is others port code) (λ s turns.
        takes_followed (suc deepest) turns (value_in bodies code s turns) _ _ _ (value_takes code s turns) (λ v turns.
        takes_need (suc deepest) turns (level_tuple (out-Value v)) _ _ (λ values. stays F.Next (submitted s port (I.Tuple values)) turns)));
    submit_window = λ port. follows_by (T.SubmitWindow port) _ _ (submit_window_is bodies port) (submit_window_is others port) (λ s turns.
        stays F.Next (submitted s port I.Window) turns);
  }

  all_follow : (row : List Statement) → AllByRecursion Follows row
  all_follow [] = tt
  all_follow (x ∷ row) = (statement_ind Follows statement_steps x, all_follow row)

  pub body_takes : (row : List Statement) (env : Env) (turns : ℕ) → Takes (suc deepest) turns (body_leaves bodies row env turns) (body_leaves others row env)
  body_takes row env turns =
      takes_followed (suc deepest) turns _ _ _ _ (scoped_take (row_acts bodies row) (row_acts others row) (row_takes row (all_follow row)) (record { env = env; submits = [] }) turns) (λ w turns.
      takes_need (suc deepest) turns (returned_by w.0) _ _ (λ v. takes_none (suc deepest) (record { vars = w.1.env.vars; submits = w.1.submits; returned = v }) turns))
