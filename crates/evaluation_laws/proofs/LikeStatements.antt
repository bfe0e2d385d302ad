-- Statements lead from states that are alike to states that are alike.
use Rattle.std.specs.Prelude.{◌≡◌, ◌+◌, ◌<◌, ℕ, zero, suc, List, [], ◌∷◌, map, Option, None, Some, slice_get, slice_set}
use Rattle.std.specs.List.{AllByRecursion, flat_map}
use Rattle.std.proofs.Common.{refl, sym, ap, subst, inl, inr, arith}
use Rattle.spl_value.specs.declared.item.Item.{Item}
use Rattle.spl_value.specs.declared.item.Item.TheVariants as I
use Rattle.spl_value.specs.declared.value.Value.{Value}
use Rattle.spl_value.specs.declared.value.Value.TheViews.{out-Value}
use Rattle.spl_tree.specs.declared.body.Change.{Change}
use Rattle.spl_tree.specs.declared.body.Change.TheVariants as H
use Rattle.spl_tree.specs.declared.body.Place.{Place}
use Rattle.spl_tree.specs.declared.body.Statement.{Statement}
use Rattle.spl_tree.specs.declared.body.Statement.TheVariants as T
use Rattle.spl_tree.specs.declared.code.Code.{Code}
use Rattle.spl_tree.specs.declared.code.Slot.{Slot}
use Rattle.spl_tree.specs.declared.code.Slot.TheVariants as L
use Rattle.spl_tree.specs.declared.code.Selector.{Selector}
use Rattle.spl_tree.specs.declared.code.Selector.TheVariants as G
use Rattle.language_model.specs.declared.env.Env.{Env}
use Rattle.language_model.specs.declared.flow.Flow.{Flow}
use Rattle.language_model.specs.declared.flow.Flow.TheVariants as F
use Rattle.language_model.specs.Changes.{step_of, changed, change_of}
use Rattle.language_model.specs.Evaluation.{all_of, code_value, slot_value, world_of}
use Rattle.language_model.specs.parts.Operators.{truth_of}
use Rattle.language_model.specs.Outcomes.{Outcome, Done, followed, need, settled}
use Rattle.language_model.specs.Slots.{names_of, names_in_taking, place_slots, change_slots, returned_slots, statement_slots, row_slots}
use Rattle.language_model.specs.StatementLaws.{arms_act, block_is, declare_is, change_is, evaluate_is, call_is, if_is, while_is, for_is, break_is, continue_is, return_is, submit_is, submit_window_is}
use Rattle.language_model.specs.Statements.{State, Acts, Bodies, Left, body_leaves, returned_by, calls_by, value_in, truth_in, with_vars, declared, scoped, submitted, step_value, steps_taken, change_value, change_values, then_rest, then_again, turn_while, turns_while, turns_over, level_elements, level_tuple}
use Rattle.language_model.proofs.parts.Statements.{ended}
use Rattle.language_model.specs.parts.Statements.{step_values, changed_at, return_acts, statement_acts, row_acts}
use Rattle.evaluation_laws.proofs.Extending.{Extends, Same, followed_extends, done_extends, same_followed, need_extends, settled_extends, either_extends, enter_extends}
use Rattle.evaluation_laws.proofs.LikeCodes.{codes_follow}
use Rattle.evaluation_laws.proofs.NamedSlots.{All, all_front, all_behind, arm_slots, at_form, block_slots, declare_slots, changed_slots, evaluate_slots, call_slots, if_slots, while_slots, for_slots, return_slots, submit_slots}
use Rattle.language_model.proofs.StatementInduction.{StatementSteps, OfArm, statement_ind}

-- what has to hold of states that are alike, for statements that name slots of this kind alone: such slots have the same values, and what
-- is declared, ended, changed and submitted in both leaves them alike
pub record Likeness (more : ℕ) (bodies others : Bodies) (Named : Slot → Type 0) (Alike : State → State → Type 0) : Type 0 where
  pub calls : (i : ℕ) (values : List Value) (turns : ℕ) → Extends more Same (bodies i values turns) (others i values (turns + more))
  pub slot : (slot : Slot) → Named slot → (s u : State) → Alike s u → slot_value s.env slot ≡ slot_value u.env slot
  pub marker : (s u : State) → Alike s u → s.env.punct ≡ u.env.punct
  pub change : (i : ℕ) → Named (L.Variable i) → (s u : State) → Alike s u → (v : Value)
      → Alike (with_vars s (slice_set s.env.vars i v)) (with_vars u (slice_set u.env.vars i v))
  pub declare : (s u : State) → Alike s u → (v : Value) → Alike (declared s v) (declared u v)
  pub end : (s u : State) → Alike s u → (t w : State) → Alike t w → Alike (ended s t) (ended u w)
  pub submit : (s u : State) → Alike s u → (port : ℕ) (item : Item) → Alike (submitted s port item) (submitted u port item)

-- calls have the same results where bodies do
pub calls_extend : (more : ℕ) (bodies others : Bodies) → ((i : ℕ) (values : List Value) (turns : ℕ) → Extends more Same (bodies i values turns) (others i values (turns + more)))
    → (i : ℕ) (values : List Value) (turns : ℕ) → Extends more Same (calls_by bodies i values turns) (calls_by others i values (turns + more))
calls_extend more bodies others h i values turns =
    same_followed more Same (bodies i values turns) (others i values (turns + more)) _ _ (h i values turns) (λ returned turns.
    need_extends more Same returned returned _ _ refl (λ v. (v, refl, refl)))

-- the same way on, with states that are alike
abbrev pub LedAlike : (State → State → Type 0) → Flow × State → Flow × State → Type 0
LedAlike Alike w v = (w.0 ≡ v.0) × Alike w.1 v.1

module _ (more : ℕ) (bodies others : Bodies) (Named : Slot → Type 0) (Alike : State → State → Type 0) (l : Likeness more bodies others Named Alike) where
  abbrev Led : Flow × State → Flow × State → Type 0
  Led = LedAlike Alike

  -- from states that are alike the one leads where the other does
  abbrev Follows : Acts → Acts → Type 0
  Follows m n = (s u : State) → Alike s u → (turns : ℕ) → Extends more Led (m s turns) (n u (turns + more))

  led : (flow : Flow) (s u : State) → Alike s u → (turns : ℕ) → Extends more Led (Done (flow, s) turns) (Done (flow, u) (turns + more))
  led flow s u h turns = done_extends more Led (flow, s) (flow, u) turns (refl, h)

  value_extends : (code : Code Slot) → All Named (names_of code) → (s u : State) → Alike s u → (turns : ℕ)
      → Extends more Same (value_in bodies code s turns) (value_in others code u (turns + more))
  value_extends code named s u a turns =
      codes_follow more (calls_by bodies) (calls_by others) (calls_extend more bodies others l.calls) Named (world_of s.env) (world_of u.env) (λ slot h. l.slot slot h s u a)
      (l.marker s u a) code named turns

  -- ---- rows

  scoped_follows : (m n : Acts) → Follows m n → Follows (scoped m) (scoped n)
  scoped_follows m n h s u a turns =
      followed_extends more Led Led (m s turns) (n u (turns + more)) _ _ (h s u a turns) (λ w v turns is.
      done_extends more Led (w.0, ended s w.1) (v.0, ended u v.1) turns (is.0, l.end s u a w.1 v.1 is.1))

  same_flow : (P : (Flow × State) → ℕ → Outcome (Flow × State)) (Q : (Flow × State) → ℕ → Outcome (Flow × State))
      → ((flow : Flow) (s u : State) → Alike s u → (turns : ℕ) → Extends more Led (P (flow, s) turns) (Q (flow, u) (turns + more)))
      → (w v : Flow × State) (turns : ℕ) → Led w v → Extends more Led (P w turns) (Q v (turns + more))
  same_flow P Q h w v turns is = subst (λ (flow : Flow). Extends more Led (P w turns) (Q (flow, v.1) (turns + more))) is.0 (h w.0 w.1 v.1 is.1 turns)

  rest_follows : (m n : Acts) → Follows m n → (w v : Flow × State) (turns : ℕ) → Led w v → Extends more Led (then_rest w turns m) (then_rest v (turns + more) n)
  rest_follows m n h = same_flow (λ w turns. then_rest w turns m) (λ w turns. then_rest w turns n) by_flow where
    by_flow : (flow : Flow) (s u : State) → Alike s u → (turns : ℕ) → Extends more Led (then_rest (flow, s) turns m) (then_rest (flow, u) (turns + more) n)
    by_flow F.Next s u a turns = h s u a turns
    by_flow F.Broken s u a turns = led F.Broken s u a turns
    by_flow F.Continued s u a turns = led F.Continued s u a turns
    by_flow (F.Returned v) s u a turns = led (F.Returned v) s u a turns

  again_follows : (m n : Acts) → Follows m n → (w v : Flow × State) (turns : ℕ) → Led w v → Extends more Led (then_again w turns m) (then_again v (turns + more) n)
  again_follows m n h = same_flow (λ w turns. then_again w turns m) (λ w turns. then_again w turns n) by_flow where
    by_flow : (flow : Flow) (s u : State) → Alike s u → (turns : ℕ) → Extends more Led (then_again (flow, s) turns m) (then_again (flow, u) (turns + more) n)
    by_flow F.Next s u a turns = h s u a turns
    by_flow F.Continued s u a turns = h s u a turns
    by_flow F.Broken s u a turns = led F.Next s u a turns
    by_flow (F.Returned v) s u a turns = led (F.Returned v) s u a turns

  -- ---- statements

  abbrev Kept : Statement → Type 0
  Kept x = All Named (statement_slots x) → Follows (statement_acts bodies x) (statement_acts others x)

  row_follows : (row : List Statement) → AllByRecursion Kept row → All Named (row_slots row) → Follows (row_acts bodies row) (row_acts others row)
  row_follows [] h named s u a turns = led F.Next s u a turns
  row_follows (x ∷ row) h named s u a turns =
      let first = all_front Named (statement_slots x) (row_slots row) named in
      let rest = row_follows row h.1 (all_behind Named (statement_slots x) (row_slots row) named) in
      followed_extends more Led Led (statement_acts bodies x s turns) (statement_acts others x u (turns + more)) _ _ (h.0 first s u a turns)
      (rest_follows (row_acts bodies row) (row_acts others row) rest)

  -- by the equations of a form
  kept_by : (x : Statement) (m n : Acts) → ((s : State) (turns : ℕ) → statement_acts bodies x s turns ≡ m s turns)
      → ((s : State) (turns : ℕ) → statement_acts others x s turns ≡ n s turns) → Follows m n → Follows (statement_acts bodies x) (statement_acts others x)
  kept_by x m n e f h s u a turns =
      subst (λ o. Extends more Led o (statement_acts others x u (turns + more))) (sym (e s turns))
      (subst (λ o. Extends more Led (m s turns) o) (sym (f u (turns + more))) (h s u a turns))

  block_kept : (row : List Statement) → AllByRecursion Kept row → Kept (T.Block row)
  block_kept row h named =
      kept_by (T.Block row) _ _ (block_is bodies row) (block_is others row) (scoped_follows (row_acts bodies row) (row_acts others row)
      (row_follows row h (at_form Named (T.Block row) _ (block_slots row) named)))

  declare_kept : (code : Code Slot) → Kept (T.Declare code)
  declare_kept code named =
      kept_by (T.Declare code) _ _ (declare_is bodies code) (declare_is others code) (λ s u a turns.
      same_followed more Led (value_in bodies code s turns) (value_in others code u (turns + more)) _ _
      (value_extends code (at_form Named (T.Declare code) _ (declare_slots code) named) s u a turns) (λ v turns. led F.Next _ _ (l.declare s u a v) turns))

  evaluate_kept : (code : Code Slot) → Kept (T.Evaluate code)
  evaluate_kept code named =
      kept_by (T.Evaluate code) _ _ (evaluate_is bodies code) (evaluate_is others code) (λ s u a turns.
      same_followed more Led (value_in bodies code s turns) (value_in others code u (turns + more)) _ _
      (value_extends code (at_form Named (T.Evaluate code) _ (evaluate_slots code) named) s u a turns) (λ v turns. led F.Next s u a turns))

  values_extend : (codes : List (Code Slot)) → All Named (flat_map names_of codes) → (s u : State) → Alike s u → (turns : ℕ)
      → Extends more Same (all_of (map (code_value (calls_by bodies)) codes) (world_of s.env) turns) (all_of (map (code_value (calls_by others)) codes) (world_of u.env) (turns + more))
  values_extend [] named s u a turns = ([], refl, refl)
  values_extend (x ∷ codes) named s u a turns =
      let rest = all_behind Named (names_of x) (flat_map names_of codes) named in
      same_followed more Same (value_in bodies x s turns) (value_in others x u (turns + more)) _ _
      (value_extends x (all_front Named (names_of x) (flat_map names_of codes) named) s u a turns) (λ v turns.
      same_followed more Same _ _ _ _ (values_extend codes rest s u a turns) (λ vs turns. (v ∷ vs, refl, refl)))

  call_kept : (i : ℕ) (codes : List (Code Slot)) → Kept (T.Call i codes)
  call_kept i codes named =
      kept_by (T.Call i codes) _ _ (call_is bodies i codes) (call_is others i codes) (λ s u a turns.
      same_followed more Led _ _ _ _ (values_extend codes (at_form Named (T.Call i codes) _ (call_slots i codes) named) s u a turns) (λ values turns.
      enter_extends more Led turns _ _ (λ turns.
      same_followed more Led (bodies i values turns) (others i values (turns + more)) _ _ (l.calls i values turns) (λ returned turns. led F.Next s u a turns))))

  truth_extends : (code : Code Slot) → All Named (names_of code) → (s u : State) → Alike s u → (turns : ℕ)
      → Extends more Same (truth_in bodies code s turns) (truth_in others code u (turns + more))
  truth_extends code named s u a turns =
      same_followed more Same (value_in bodies code s turns) (value_in others code u (turns + more)) _ _ (value_extends code named s u a turns) (λ v turns.
      need_extends more Same (truth_of v) (truth_of v) _ _ refl (λ b. (b, refl, refl)))

  arms_follow : (arms : List (Code Slot × List Statement)) (other : List Statement) → AllByRecursion (OfArm Kept) arms → AllByRecursion Kept other
      → All Named (flat_map arm_slots arms) → All Named (row_slots other) → Follows (arms_act bodies arms other) (arms_act others arms other)
  arms_follow [] other h k arms_named named s u a turns = scoped_follows (row_acts bodies other) (row_acts others other) (row_follows other k named) s u a turns
  arms_follow (arm ∷ arms) other h k arms_named named s u a turns =
      let first = all_front Named (arm_slots arm) (flat_map arm_slots arms) arms_named in
      let rest = arms_follow arms other h.1 k (all_behind Named (arm_slots arm) (flat_map arm_slots arms) arms_named) named in
      let row = row_follows arm.1 h.0 (all_behind Named (names_of arm.0) (row_slots arm.1) first) in
      same_followed more Led (truth_in bodies arm.0 s turns) (truth_in others arm.0 u (turns + more)) _ _
      (truth_extends arm.0 (all_front Named (names_of arm.0) (row_slots arm.1) first) s u a turns) (λ b turns.
      either_extends more Led b _ _ _ _ (scoped_follows (row_acts bodies arm.1) (row_acts others arm.1) row s u a turns) (rest s u a turns))

  if_kept : (arms : List (Code Slot × List Statement)) (other : List Statement) → AllByRecursion (OfArm Kept) arms → AllByRecursion Kept other → Kept (T.If arms other)
  if_kept arms other h k named =
      let all = at_form Named (T.If arms other) _ (if_slots arms other) named in
      kept_by (T.If arms other) _ _ (if_is bodies arms other) (if_is others arms other)
      (arms_follow arms other h k (all_front Named (flat_map arm_slots arms) (row_slots other) all) (all_behind Named (flat_map arm_slots arms) (row_slots other) all))

  -- ---- loops

  turn_follows : (code : Code Slot) → All Named (names_of code) → (m n : Acts) → Follows m n → (again next : Acts) → Follows again next
      → Follows (turn_while bodies code m again) (turn_while others code n next)
  turn_follows code named m n h again next k s u a turns =
      same_followed more Led (truth_in bodies code s turns) (truth_in others code u (turns + more)) _ _ (truth_extends code named s u a turns) (λ b turns.
      either_extends more Led b _ _ _ _
      (enter_extends more Led turns _ _ (λ turns. followed_extends more Led Led (m s turns) (n u (turns + more)) _ _ (h s u a turns) (again_follows again next k)))
      (led F.Next s u a turns))

  -- with no turn more than one, and with `more` more
  last_follows : (code : Code Slot) → All Named (names_of code) → (m n : Acts) → Follows m n → (k : ℕ) → k ≡ more
      → Follows (turns_while zero bodies code m) (turns_while k others code n)
  last_follows code named m n h zero e = turn_follows code named m n h _ _ (λ s u a turns. inl refl)
  last_follows code named m n h (suc k) e =
      turn_follows code named m n h _ (turns_while k others code n) (λ s u a turns. inr (refl, subst (λ n. 0 < n) e (omega arith)))

  turns_follow : (code : Code Slot) → All Named (names_of code) → (m n : Acts) → Follows m n → (k : ℕ)
      → Follows (turns_while k bodies code m) (turns_while (k + more) others code n)
  turns_follow code named m n h zero = last_follows code named m n h (zero + more) (omega arith)
  turns_follow code named m n h (suc k) =
      let same : suc (k + more) ≡ suc k + more = omega arith in
      subst (λ j. Follows (turns_while (suc k) bodies code m) (turns_while j others code n)) same
      (turn_follows code named m n h (turns_while k bodies code m) (turns_while (k + more) others code n) (turns_follow code named m n h k))

  while_kept : (code : Code Slot) (row : List Statement) → AllByRecursion Kept row → Kept (T.While code row)
  while_kept code row h named =
      let all = at_form Named (T.While code row) _ (while_slots code row) named in
      let body = row_follows row h (all_behind Named (names_of code) (row_slots row) all) in
      kept_by (T.While code row) _ _ (while_is bodies code row) (while_is others code row) (λ s u a turns.
      turns_follow code (all_front Named (names_of code) (row_slots row) all) _ _ (scoped_follows (row_acts bodies row) (row_acts others row) body) turns s u a turns)

  over_follows : (m n : Acts) → Follows m n → (vs : List Value) → Follows (turns_over vs m) (turns_over vs n)
  over_follows m n h [] s u a turns = led F.Next s u a turns
  over_follows m n h (v ∷ vs) s u a turns =
      let turn = scoped_follows (λ s turns. m (declared s v) turns) (λ s turns. n (declared s v) turns) (λ s u a turns. h _ _ (l.declare s u a v) turns) in
      enter_extends more Led turns _ _ (λ turns. followed_extends more Led Led _ _ _ _ (turn s u a turns) (again_follows (turns_over vs m) (turns_over vs n) (over_follows m n h vs)))

  for_kept : (code : Code Slot) (row : List Statement) → AllByRecursion Kept row → Kept (T.For code row)
  for_kept code row h named =
      let all = at_form Named (T.For code row) _ (for_slots code row) named in
      let body = row_follows row h (all_behind Named (names_of code) (row_slots row) all) in
      kept_by (T.For code row) _ _ (for_is bodies code row) (for_is others code row) (λ s u a turns.
      same_followed more Led (value_in bodies code s turns) (value_in others code u (turns + more)) _ _
      (value_extends code (all_front Named (names_of code) (row_slots row) all) s u a turns) (λ v turns.
      need_extends more Led (level_elements (out-Value v)) (level_elements (out-Value v)) _ _ refl (λ values.
      over_follows (row_acts bodies row) (row_acts others row) body values s u a turns)))

  -- ---- ways on

  break_kept : Kept T.Break
  break_kept named = kept_by T.Break _ _ (break_is bodies) (break_is others) (led F.Broken)

  continue_kept : Kept T.Continue
  continue_kept named = kept_by T.Continue _ _ (continue_is bodies) (continue_is others) (led F.Continued)

  return_follows : (code : Option (Code Slot)) → All Named (returned_slots code) → Follows (return_acts bodies code) (return_acts others code)
  return_follows None named s u a turns = led (F.Returned None) s u a turns
  return_follows (Some code) named s u a turns =
      same_followed more Led (value_in bodies code s turns) (value_in others code u (turns + more)) _ _ (value_extends code named s u a turns) (λ v turns.
      led (F.Returned (Some v)) s u a turns)

  return_kept : (code : Option (Code Slot)) → Kept (T.Return code)
  return_kept code named =
      kept_by (T.Return code) _ _ (return_is bodies code) (return_is others code) (return_follows code (at_form Named (T.Return code) _ (return_slots code) named))

  submit_kept : (port : ℕ) (code : Code Slot) → Kept (T.Submit port code)
  submit_kept port code named =
      kept_by (T.Submit port code) _ _ (submit_is bodies port code) (submit_is others port code) (λ s u a turns.
      same_followed more Led (value_in bodies code s turns) (value_in others code u (turns + more)) _ _
      (value_extends code (at_form Named (T.Submit port code) _ (submit_slots port code) named) s u a turns) (λ v turns.
      need_extends more Led (level_tuple (out-Value v)) (level_tuple (out-Value v)) _ _ refl (λ values.
      led F.Next _ _ (l.submit s u a port (I.Tuple values)) turns)))

  submit_window_kept : (port : ℕ) → Kept (T.SubmitWindow port)
  submit_window_kept port named =
      kept_by (T.SubmitWindow port) _ _ (submit_window_is bodies port) (submit_window_is others port) (λ s u a turns. led F.Next _ _ (l.submit s u a port I.Window) turns)

  -- ---- changes

  abbrev step_slots : Selector (Code Slot) → List Slot
  step_slots = names_in_taking names_of

  step_extends : (t : Selector (Code Slot)) → All Named (step_slots t) → (s u : State) → Alike s u → (turns : ℕ)
      → Extends more Same (step_value bodies t s turns) (step_value others t u (turns + more))
  step_extends (G.Member i) named s u a turns = (G.Member i, refl, refl)
  step_extends (G.Element code) named s u a turns =
      same_followed more Same (value_in bodies code s turns) (value_in others code u (turns + more)) _ _ (value_extends code named s u a turns) (λ v turns. (G.Element v, refl, refl))
  step_extends (G.AtKey code) named s u a turns =
      same_followed more Same (value_in bodies code s turns) (value_in others code u (turns + more)) _ _ (value_extends code named s u a turns) (λ v turns. (G.AtKey v, refl, refl))

  steps_extend : (ts : List (Selector (Code Slot))) → All Named (flat_map step_slots ts) → (s u : State) → Alike s u → (turns : ℕ)
      → Extends more Same (step_values bodies ts s turns) (step_values others ts u (turns + more))
  steps_extend [] named s u a turns = ([], refl, refl)
  steps_extend (t ∷ ts) named s u a turns =
      same_followed more Same (step_value bodies t s turns) (step_value others t u (turns + more)) _ _
      (step_extends t (all_front Named (step_slots t) (flat_map step_slots ts) named) s u a turns) (λ step turns.
      same_followed more Same (step_values bodies ts s turns) (step_values others ts u (turns + more)) _ _
      (steps_extend ts (all_behind Named (step_slots t) (flat_map step_slots ts) named) s u a turns) (λ steps turns. (step ∷ steps, refl, refl)))

  taken_extend : (ts : List (Selector (Code Slot))) → All Named (flat_map step_slots ts) → (v : Value) (s u : State) → Alike s u → (turns : ℕ)
      → Extends more Same (steps_taken bodies ts v s turns) (steps_taken others ts v u (turns + more))
  taken_extend [] named v s u a turns = ([], refl, refl)
  taken_extend (t ∷ ts) named v s u a turns =
      let rest = all_behind Named (step_slots t) (flat_map step_slots ts) named in
      same_followed more Same (step_value bodies t s turns) (step_value others t u (turns + more)) _ _
      (step_extends t (all_front Named (step_slots t) (flat_map step_slots ts) named) s u a turns) (λ step turns.
      same_followed more Same (settled (step_of step v) turns) (settled (step_of step v) (turns + more)) _ _ (settled_extends more (step_of step v) turns) (λ x turns.
      same_followed more Same (steps_taken bodies ts x s turns) (steps_taken others ts x u (turns + more)) _ _ (taken_extend ts rest x s u a turns) (λ steps turns.
      (step ∷ steps, refl, refl))))

  change_extends : (change : Change (Code Slot)) → All Named (change_slots change) → (s u : State) → Alike s u → (turns : ℕ)
      → Extends more Same (change_value bodies change s turns) (change_value others change u (turns + more))
  change_extends (H.Put code) named s u a turns =
      same_followed more Same (value_in bodies code s turns) (value_in others code u (turns + more)) _ _ (value_extends code named s u a turns) (λ v turns. (H.Put v, refl, refl))
  change_extends (H.Append code) named s u a turns =
      same_followed more Same (value_in bodies code s turns) (value_in others code u (turns + more)) _ _ (value_extends code named s u a turns) (λ v turns. (H.Append v, refl, refl))
  change_extends (H.Remove code) named s u a turns =
      same_followed more Same (value_in bodies code s turns) (value_in others code u (turns + more)) _ _ (value_extends code named s u a turns) (λ v turns. (H.Remove v, refl, refl))
  change_extends H.Clear named s u a turns = (H.Clear, refl, refl)

  module _ (place : Place) (names_variable : Named (L.Variable place.variable)) (named : All Named (flat_map step_slots place.takings)) where
    -- of a change that evaluates the place first
    abbrev called_values : Bodies → Change (Code Slot) → State → ℕ → Outcome (List (Selector Value) × Change Value)
    called_values bodies change s turns =
        need (slice_get s.env.vars place.variable) (λ v.
        followed (steps_taken bodies place.takings v s turns) (λ steps turns.
        followed (change_value bodies change s turns) (λ change turns. Done (steps, change) turns)))

    called_extends : (change : Change (Code Slot)) → All Named (change_slots change) → (s u : State) → Alike s u → (turns : ℕ)
        → Extends more Same (called_values bodies change s turns) (called_values others change u (turns + more))
    called_extends change arguments s u a turns =
        need_extends more Same _ _ _ _ (l.slot (L.Variable place.variable) names_variable s u a) (λ v.
        same_followed more Same (steps_taken bodies place.takings v s turns) (steps_taken others place.takings v u (turns + more)) _ _
        (taken_extend place.takings named v s u a turns) (λ steps turns.
        same_followed more Same (change_value bodies change s turns) (change_value others change u (turns + more)) _ _
        (change_extends change arguments s u a turns) (λ x turns. ((steps, x), refl, refl))))

    changes_extend : (change : Change (Code Slot)) → All Named (change_slots change) → (s u : State) → Alike s u → (turns : ℕ)
        → Extends more Same (change_values bodies place change s turns) (change_values others place change u (turns + more))
    changes_extend (H.Put code) arguments s u a turns =
        same_followed more Same (change_value bodies (H.Put code) s turns) (change_value others (H.Put code) u (turns + more)) _ _
        (change_extends (H.Put code) arguments s u a turns) (λ x turns.
        same_followed more Same (step_values bodies place.takings s turns) (step_values others place.takings u (turns + more)) _ _
        (steps_extend place.takings named s u a turns) (λ steps turns. ((steps, x), refl, refl)))
    changes_extend (H.Append code) arguments s u a turns = called_extends (H.Append code) arguments s u a turns
    changes_extend (H.Remove code) arguments s u a turns = called_extends (H.Remove code) arguments s u a turns
    changes_extend H.Clear arguments s u a turns = called_extends H.Clear arguments s u a turns

    changed_follows : (steps : List (Selector Value)) (change : Change Value) → Follows (changed_at place.variable steps change) (changed_at place.variable steps change)
    changed_follows steps change s u a turns =
        need_extends more Led _ _ _ _ (l.slot (L.Variable place.variable) names_variable s u a) (λ old.
        let called = changed steps (change_of change) (Some old) in
        same_followed more Led (settled called turns) (settled called (turns + more)) _ _ (settled_extends more called turns) (λ new turns.
        led F.Next _ _ (l.change place.variable names_variable s u a new) turns))

  change_kept : (place : Place) (change : Change (Code Slot)) → Kept (T.Change place change)
  change_kept place change named =
      let all = at_form Named (T.Change place change) _ (changed_slots place change) named in
      let of_place = all_front Named (place_slots place) (change_slots change) all in
      kept_by (T.Change place change) _ _ (change_is bodies place change) (change_is others place change) (λ s u a turns.
      same_followed more Led (change_values bodies place change s turns) (change_values others place change u (turns + more)) _ _
      (changes_extend place of_place.0 of_place.1 change (all_behind Named (place_slots place) (change_slots change) all) s u a turns) (λ w turns.
      changed_follows place of_place.0 of_place.1 w.0 w.1 s u a turns))

  -- ---- all statements

  kept_steps : StatementSteps Kept
  kept_steps = record {
    block = block_kept;
    declare = declare_kept;
    change = change_kept;
    evaluate = evaluate_kept;
    call = call_kept;
    if_true = if_kept;
    while = while_kept;
    for_each = for_kept;
    break = break_kept;
    continue = continue_kept;
    return = return_kept;
    submit = submit_kept;
    submit_window = submit_window_kept;
  }

  all_kept : (row : List Statement) → AllByRecursion Kept row
  all_kept [] = tt
  all_kept (x ∷ row) = (statement_ind Kept kept_steps x, all_kept row)

  -- from states that are alike rows lead to states that are alike
  pub rows_follow : (row : List Statement) → All Named (row_slots row) → Follows (row_acts bodies row) (row_acts others row)
  rows_follow row = row_follows row (all_kept row)

  -- bodies leave what is alike, where states that are alike are left so
  pub left_alike : (P : Left → Left → Type 0)
      → ((s u : State) → Alike s u → (v : Option Value) → P (record { vars = s.env.vars; submits = s.submits; returned = v }) (record { vars = u.env.vars; submits = u.submits; returned = v }))
      → (row : List Statement) → All Named (row_slots row) → (env other : Env) → Alike (record { env = env; submits = [] }) (record { env = other; submits = [] })
      → (turns : ℕ) → Extends more P (body_leaves bodies row env turns) (body_leaves others row other (turns + more))
  left_alike P h row named env other a turns =
      followed_extends more Led P _ _ _ _
      (scoped_follows (row_acts bodies row) (row_acts others row) (rows_follow row named) (record { env = env; submits = [] }) (record { env = other; submits = [] }) a turns)
      (λ w v turns is. need_extends more P (returned_by w.0) (returned_by v.0) _ _ (ap returned_by is.0) (λ returned. done_extends more P _ _ turns (h w.1 v.1 is.1 returned)))
