-- Statements add as many submits as their intervals say.
use Rattle.std.specs.Prelude.{◌≡◌, ◌≤◌, ◌+◌, ◌||◌, ⊤, ℕ, zero, suc, Bool, true, false, if◌then◌else◌, List, [], ◌∷◌, map, length, Option, None, Some, option_map, slice_get, slice_set}
use Rattle.std.specs.List.{AllByRecursion}
use Rattle.std.proofs.Common.{refl, sym, ap, subst, ◌∙◌, arith, length-append}
use Rattle.spl_value.specs.declared.item.FaultKind.TheVariants as X
use Rattle.spl_value.specs.declared.item.Item.{Item}
use Rattle.spl_value.specs.declared.item.Item.TheVariants as I
use Rattle.spl_value.specs.declared.value.Value.{Value}
use Rattle.spl_value.specs.declared.value.Value.TheVariants as V
use Rattle.spl_value.specs.declared.value.Value.TheViews.{out-Value}
use Rattle.spl_tree.specs.declared.body.Change.{Change}
use Rattle.spl_tree.specs.declared.body.Place.{Place}
use Rattle.spl_tree.specs.declared.body.Statement.{Statement}
use Rattle.spl_tree.specs.declared.body.Statement.TheVariants as T
use Rattle.spl_tree.specs.declared.body.Statement.TheOpen as S
use Rattle.spl_tree.specs.declared.body.Statement.TheOpen.{Statement-F}
use Rattle.spl_tree.specs.declared.body.Statement.TheViews.{out-Statement}
use Rattle.spl_tree.specs.declared.body.Statement.TheFolds.{fold_out-Statement, map-Statement}
use Rattle.spl_tree.specs.declared.code.Code.{Code}
use Rattle.spl_tree.specs.declared.code.Code.TheOpen as C
use Rattle.spl_tree.specs.declared.code.Code.TheOpen.{Code-F}
use Rattle.spl_tree.specs.declared.code.Code.TheViews.{out-Code}
use Rattle.spl_tree.specs.declared.code.Code.TheFolds.{fold_out-Code, map-Code}
use Rattle.spl_tree.specs.declared.code.Marker.{Marker}
use Rattle.spl_tree.specs.declared.code.Marker.TheVariants as M
use Rattle.spl_tree.specs.declared.code.Slot.{Slot}
use Rattle.language_model.specs.declared.env.Env.{Env}
use Rattle.language_model.specs.declared.flow.Flow.{Flow}
use Rattle.language_model.specs.declared.flow.Flow.TheVariants as F
use Rattle.language_model.specs.declared.outs.Output.{Output}
use Rattle.language_model.specs.Changes.{changed, change_of}
use Rattle.language_model.specs.Evaluation.{Meaning, all_of, code_value, level_value, same_marker, truth, world_of}
use Rattle.language_model.specs.Functions.{bodies_of}
use Rattle.language_model.specs.Operators.{level_truth}
use Rattle.language_model.specs.parts.Operators.{truth_of}
use Rattle.language_model.specs.Outcomes.{Outcome, Done, Faulted, Stuck, followed, need, settled}
use Rattle.language_model.specs.StatementLaws.{arms_act, block_is, declare_is, change_is, evaluate_is, call_is, if_is, while_is, for_is, break_is, continue_is, return_is, submit_is, submit_window_is}
use Rattle.language_model.specs.Statements.{State, Acts, Bodies, Left, calls_by, value_in, truth_in, with_vars, declared, scoped, submitted, change_values, then_rest, then_again, turn_while, turns_while, turns_over, level_elements, level_tuple, body_leaves}
use Rattle.language_model.specs.parts.Statements.{return_acts, statement_acts, row_acts}
use Rattle.language_model.proofs.parts.Statements.{left_by}
use Rattle.language_model.proofs.Returning.{Only, only_followed, only_enter, only_weaker}
use Rattle.language_model.proofs.StatementInduction.{OfArm, StatementSteps, statement_ind}
use Rattle.stream_model.specs.Selectivity.{Interval, any_times, both, chosen, either, exactly, least_number, level_decided, level_interval, of_arms, repeated, row_interval}
use Rattle.stream_model.specs.parts.Selectivity.{decided, greatest_number}
use Rattle.stream_model.proofs.parts.Selectivity.{larger_of, sum_of}
use Rattle.selectivity_rules.specs.SubmitLaws.{IntervalLaw, IsUpTo}
use Rattle.selectivity_rules.specs.steps.Intervals.{statement_interval}
use Rattle.spl_value.proofs.Bools.{or_last}

-- ---- answers

only_then : {A B : Type 0} (Q : B → Type 0) (o : Outcome A) (f : A → ℕ → Outcome B) → ((x : A) (turns : ℕ) → Only Q (f x turns)) → Only Q (followed o f)
only_then Q (Done x turns) f k = k x turns
only_then Q (Faulted kind) f k = tt
only_then Q Stuck f k = tt

only_need : {A B : Type 0} (Q : B → Type 0) (o : Option A) (f : A → Outcome B) → ((x : A) → Only Q (f x)) → Only Q (need o f)
only_need Q None f k = tt
only_need Q (Some x) f k = k x

-- ---- numbers

-- the second number is at most the first plus the greatest number, where there is one
abbrev IsWithin : Option ℕ → ℕ → ℕ → Type 0
IsWithin (Some m) a b = b ≤ a + m
IsWithin None a b = ⊤

within_same : (m : Option ℕ) (a : ℕ) → IsWithin m a a
within_same None a = tt
within_same (Some m) a = omega arith

within_sum : (m n : Option ℕ) (a b c : ℕ) → IsWithin m a b → IsWithin n b c → IsWithin (sum_of m n) a c
within_sum None n a b c h k = tt
within_sum (Some m) None a b c h k = tt
within_sum (Some m) (Some n) a b c h k = omega arith

within_first : (m n : Option ℕ) (a b : ℕ) → IsWithin m a b → IsWithin (larger_of m n) a b
within_first None n a b h = tt
within_first (Some m) None a b h = tt
within_first (Some m) (Some n) a b h = omega arith

within_second : (m n : Option ℕ) (a b : ℕ) → IsWithin n a b → IsWithin (larger_of m n) a b
within_second None n a b h = tt
within_second (Some m) None a b h = tt
within_second (Some m) (Some n) a b h = omega arith

within_times : (m : Option ℕ) (a b : ℕ) → IsWithin m a b → IsWithin (any_times m) a b
within_times None a b h = tt
within_times (Some zero) a b h = h
within_times (Some (suc m)) a b h = tt

within_again : (m : Option ℕ) (a b c : ℕ) → IsWithin m a b → IsWithin (any_times m) b c → IsWithin (any_times m) a c
within_again None a b c h k = tt
within_again (Some zero) a b c h k = omega arith
within_again (Some (suc m)) a b c h k = tt

-- ---- where a statement leads

abbrev IsNext : Flow → Type 0
IsNext F.Next = ⊤
IsNext F.Broken = ⊥
IsNext F.Continued = ⊥
IsNext (F.Returned v) = ⊥

abbrev HasReturned : Flow → Type 0
HasReturned F.Next = ⊥
HasReturned F.Broken = ⊥
HasReturned F.Continued = ⊥
HasReturned (F.Returned v) = ⊤

-- what is led to with n submits before: the marker is the same, none of the submits is gone, at most the greatest number is added, and at
-- least the least number where the next statement follows
record Adds (marker : Option Marker) (i : Interval) (n : ℕ) (w : Flow × State) : Type 0 where
  same : w.1.env.punct ≡ marker
  grows : n ≤ length w.1.submits
  least : IsNext w.0 → n + i.least ≤ length w.1.submits
  most : IsWithin i.most n (length w.1.submits)
  returned : HasReturned w.0 → i.returns ≡ true

module _ (marker : Option Marker) where
  nothing_added : (s : State) → s.env.punct ≡ marker → Adds marker (exactly 0) (length s.submits) (F.Next, s)
  nothing_added s e = record { same = e; grows = omega arith; least = λ next. omega arith; most = omega arith; returned = λ h. absurd h }

  one_added : (s : State) → s.env.punct ≡ marker → (port : ℕ) (item : Item) → Adds marker (exactly 1) (length s.submits) (F.Next, submitted s port item)
  one_added s e port item =
      let o : Output = record { port = port; item = item } in
      let more = length-append s.submits (o ∷ []) in
      record { same = e; grows = omega arith; least = λ next. omega arith; most = omega arith; returned = λ h. absurd h }

  -- the first alone, where the second doesn't follow
  alone : (i j : Interval) (n : ℕ) (flow : Flow) (s : State) → (IsNext flow → ⊥) → Adds marker i n (flow, s) → Adds marker (both i j) n (flow, s)
  alone i j n flow s away h = record {
    same = h.same;
    grows = h.grows;
    least = λ next. absurd (away next);
    most = within_sum i.most j.most n (length s.submits) (length s.submits) h.most (within_same j.most (length s.submits));
    returned = λ r. ap (λ b. b || j.returns) (h.returned r);
  }

  then_added : (i j : Interval) (n : ℕ) (s : State) (w : Flow × State) → Adds marker i n (F.Next, s) → Adds marker j (length s.submits) w → Adds marker (both i j) n w
  then_added i j n s w h k =
      let first = h.least tt in
      record {
        same = k.same;
        grows = let a = h.grows in let b = k.grows in omega arith;
        least = λ next. (let second = k.least next in omega arith);
        most = within_sum i.most j.most n (length s.submits) (length w.1.submits) h.most k.most;
        returned = λ r. or_last i.returns j.returns (k.returned r);
      }

  first_of_two : (i j : Interval) (n : ℕ) (w : Flow × State) → Adds marker i n w → Adds marker (either i j) n w
  first_of_two i j n w h = record {
    same = h.same;
    grows = h.grows;
    least = λ next. (let a = h.least next in omega arith);
    most = within_first i.most j.most n (length w.1.submits) h.most;
    returned = λ r. ap (λ b. b || j.returns) (h.returned r);
  }

  second_of_two : (i j : Interval) (n : ℕ) (w : Flow × State) → Adds marker j n w → Adds marker (either i j) n w
  second_of_two i j n w h = record {
    same = h.same;
    grows = h.grows;
    least = λ next. (let a = h.least next in omega arith);
    most = within_second i.most j.most n (length w.1.submits) h.most;
    returned = λ r. or_last i.returns j.returns (h.returned r);
  }

  -- a turn, from any way on to another that returns nothing new
  turn_added : (i : Interval) (n : ℕ) (w v : Flow × State) → w.1 ≡ v.1 → (HasReturned v.0 → HasReturned w.0) → Adds marker i n w → Adds marker (repeated i) n v
  turn_added i n w v e back h = subst (λ (s : State). Adds marker (repeated i) n (v.0, s)) e (record {
    same = h.same;
    grows = h.grows;
    least = λ next. (let a = h.grows in omega arith);
    most = within_times i.most n (length w.1.submits) h.most;
    returned = λ r. h.returned (back r);
  })

  again_added : (i : Interval) (n : ℕ) (w v : Flow × State) → Adds marker i n w → Adds marker (repeated i) (length w.1.submits) v → Adds marker (repeated i) n v
  again_added i n w v h k = record {
    same = k.same;
    grows = let a = h.grows in let b = k.grows in omega arith;
    least = λ next. (let a = h.grows in let b = k.grows in omega arith);
    most = within_again i.most n (length w.1.submits) (length v.1.submits) h.most k.most;
    returned = k.returned;
  }

module _ (marker : Option Marker) (bodies : Bodies) where
  -- wherever it begins where that marker came
  abbrev Holds : Interval → Acts → Type 0
  Holds i acts = (s : State) → s.env.punct ≡ marker → (turns : ℕ) → Only (Adds marker i (length s.submits)) (acts s turns)

  holds_by : (i : Interval) (acts other : Acts) → ((s : State) (turns : ℕ) → acts s turns ≡ other s turns) → Holds i other → Holds i acts
  holds_by i acts other e h s m turns = subst (Only (Adds marker i (length s.submits))) (sym (e s turns)) (h s m turns)

  scoped_holds : (i : Interval) (acts : Acts) → Holds i acts → Holds i (scoped acts)
  scoped_holds i acts h s m turns =
      only_followed (Adds marker i (length s.submits)) (Adds marker i (length s.submits)) (acts s turns) _ (h s m turns) (λ w turns a.
      record { same = a.same; grows = a.grows; least = a.least; most = a.most; returned = a.returned })

  -- ---- rows

  rest_holds : (i j : Interval) (n : ℕ) (rest : Acts) → Holds j rest → (w : Flow × State) (turns : ℕ) → Adds marker i n w
      → Only (Adds marker (both i j) n) (then_rest w turns rest)
  rest_holds i j n rest h (F.Next, s) turns a =
      only_weaker (Adds marker j (length s.submits)) (Adds marker (both i j) n) (rest s turns) (λ v b. then_added marker i j n s v a b) (h s a.same turns)
  rest_holds i j n rest h (F.Broken, s) turns a = alone marker i j n F.Broken s (λ next. next) a
  rest_holds i j n rest h (F.Continued, s) turns a = alone marker i j n F.Continued s (λ next. next) a
  rest_holds i j n rest h (F.Returned v, s) turns a = alone marker i j n (F.Returned v) s (λ next. next) a

  abbrev Counted : Statement → Type 0
  Counted x = Holds (statement_interval marker x) (statement_acts bodies x)

  row_holds : (row : List Statement) → AllByRecursion Counted row → Holds (row_interval marker row) (row_acts bodies row)
  row_holds [] h s m turns = nothing_added marker s m
  row_holds (x ∷ row) h s m turns =
      only_followed (Adds marker (statement_interval marker x) (length s.submits)) (Adds marker (row_interval marker (x ∷ row)) (length s.submits))
      (statement_acts bodies x s turns) _ (h.0 s m turns)
      (λ w turns a. rest_holds (statement_interval marker x) (row_interval marker row) (length s.submits) (row_acts bodies row) (row_holds row h.1) w turns a)

  -- ---- conditions

  -- a condition that the marker decides has that value
  abbrev Agrees : Option Bool → Bool → Type 0
  Agrees None b = ⊤
  Agrees (Some c) b = b ≡ c

  any_truth : (o : Outcome Bool) → Only (Agrees None) o
  any_truth (Done b turns) = tt
  any_truth (Faulted kind) = tt
  any_truth Stuck = tt

  abbrev truth_by : Meaning Slot → State → ℕ → Outcome Bool
  truth_by meaning s turns = truth meaning (world_of s.env) turns

  abbrev meaning_of : Code-F Slot (Code Slot) → Meaning Slot
  meaning_of form = level_value (calls_by bodies) (map-Code Slot (Code Slot) (Meaning Slot) (code_value (calls_by bodies)) form)

  window_agrees : (came : Option Marker) → came ≡ marker → (turns : ℕ)
      → Only (Agrees (option_map (same_marker M.Window) marker))
      (followed (need came (λ n. Done (V.Bool (same_marker M.Window n)) turns)) (λ v turns. need (truth_of v) (λ b. Done b turns)))
  window_agrees None e turns = tt
  window_agrees (Some n) e turns =
      let b : Bool = same_marker M.Window n in
      subst (λ (m : Option Marker). Only (Agrees (option_map (same_marker M.Window) m)) (need (truth_of (V.Bool b)) (λ b. Done b turns))) e
      (subst (λ (t : Option Bool). Only (Agrees (Some b)) (need t (λ b. Done b turns))) (sym (ap level_truth (V.outs-Bool b))) refl)

  form_agrees : (form : Code-F Slot (Code Slot)) (s : State) → s.env.punct ≡ marker → (turns : ℕ)
      → Only (Agrees (level_decided marker form)) (truth_by (meaning_of form) s turns)
  form_agrees (C.IsMarker M.Window) s m turns = window_agrees s.env.punct m turns
  form_agrees form s m turns = any_truth (truth_by (meaning_of form) s turns)

  truth_agrees : (code : Code Slot) (s : State) → s.env.punct ≡ marker → (turns : ℕ) → Only (Agrees (decided marker code)) (truth_in bodies code s turns)
  truth_agrees code s m turns =
      subst (λ (meaning : Meaning Slot). Only (Agrees (decided marker code)) (truth_by meaning s turns))
      (sym (fold_out-Code Slot (Meaning Slot) (level_value (calls_by bodies)) code))
      (form_agrees (out-Code Slot code) s m turns)

  -- ---- arms

  chosen_holds : (d : Option Bool) (i j : Interval) (s : State) (first second : Outcome (Flow × State)) → Only (Adds marker i (length s.submits)) first
      → Only (Adds marker j (length s.submits)) second → (b : Bool) → Agrees d b → Only (Adds marker (chosen d i j) (length s.submits)) (if b then first else second)
  chosen_holds None i j s first second h k true a = only_weaker (Adds marker i (length s.submits)) (Adds marker (either i j) (length s.submits)) first (first_of_two marker i j (length s.submits)) h
  chosen_holds None i j s first second h k false a = only_weaker (Adds marker j (length s.submits)) (Adds marker (either i j) (length s.submits)) second (second_of_two marker i j (length s.submits)) k
  chosen_holds (Some true) i j s first second h k true a = h
  chosen_holds (Some true) i j s first second h k false a = absurd cc
  chosen_holds (Some false) i j s first second h k true a = absurd cc
  chosen_holds (Some false) i j s first second h k false a = k

  abbrev arm_interval : Code Slot × List Statement → Code Slot × List Interval
  arm_interval arm = (arm.0, map (statement_interval marker) arm.1)

  arms_hold : (arms : List (Code Slot × List Statement)) (other : List Statement) → AllByRecursion (OfArm Counted) arms → AllByRecursion Counted other
      → Holds (of_arms marker (map arm_interval arms) (map (statement_interval marker) other)) (arms_act bodies arms other)
  arms_hold [] other h k s m turns = scoped_holds (row_interval marker other) (row_acts bodies other) (row_holds other k) s m turns
  arms_hold (arm ∷ arms) other h k s m turns =
      let d = decided marker arm.0 in
      let here = row_interval marker arm.1 in
      let further = of_arms marker (map arm_interval arms) (map (statement_interval marker) other) in
      only_followed (Agrees d) (Adds marker (chosen d here further) (length s.submits)) (truth_in bodies arm.0 s turns) _ (truth_agrees arm.0 s m turns) (λ b turns a.
      chosen_holds d here further s (scoped (row_acts bodies arm.1) s turns) (arms_act bodies arms other s turns)
      (scoped_holds here (row_acts bodies arm.1) (row_holds arm.1 h.0) s m turns) (arms_hold arms other h.1 k s m turns) b a)

  -- ---- loops

  again_holds : (i : Interval) (n : ℕ) (again : Acts) → Holds (repeated i) again → (w : Flow × State) (turns : ℕ) → Adds marker i n w
      → Only (Adds marker (repeated i) n) (then_again w turns again)
  again_holds i n again h (F.Next, s) turns a =
      only_weaker (Adds marker (repeated i) (length s.submits)) (Adds marker (repeated i) n) (again s turns) (λ v b. again_added marker i n (F.Next, s) v a b) (h s a.same turns)
  again_holds i n again h (F.Continued, s) turns a =
      only_weaker (Adds marker (repeated i) (length s.submits)) (Adds marker (repeated i) n) (again s turns) (λ v b. again_added marker i n (F.Continued, s) v a b) (h s a.same turns)
  again_holds i n again h (F.Broken, s) turns a = turn_added marker i n (F.Broken, s) (F.Next, s) refl (λ r. r) a
  again_holds i n again h (F.Returned v, s) turns a = turn_added marker i n (F.Returned v, s) (F.Returned v, s) refl (λ r. r) a

  no_turn : (i : Interval) (s : State) → s.env.punct ≡ marker → Adds marker (repeated i) (length s.submits) (F.Next, s)
  no_turn i s m = record {
    same = m;
    grows = omega arith;
    least = λ next. omega arith;
    most = within_times i.most (length s.submits) (length s.submits) (within_same i.most (length s.submits));
    returned = λ r. absurd r;
  }

  if_holds : (Q : Flow × State → Type 0) (b : Bool) (o p : Outcome (Flow × State)) → Only Q o → Only Q p → Only Q (if b then o else p)
  if_holds Q true o p h k = h
  if_holds Q false o p h k = k

  module _ (i : Interval) (code : Code Slot) (body : Acts) (h : Holds i body) where
    turn_holds : (again : Acts) → Holds (repeated i) again → Holds (repeated i) (turn_while bodies code body again)
    turn_holds again k s m turns =
        only_then (Adds marker (repeated i) (length s.submits)) (truth_in bodies code s turns) _ (λ b turns.
        if_holds (Adds marker (repeated i) (length s.submits)) b _ (Done (F.Next, s) turns)
        (only_enter (Adds marker (repeated i) (length s.submits)) turns _ (λ turns.
        only_followed (Adds marker i (length s.submits)) (Adds marker (repeated i) (length s.submits)) (body s turns) _ (h s m turns)
        (again_holds i (length s.submits) again k)))
        (no_turn i s m))

    turns_hold : (n : ℕ) → Holds (repeated i) (turns_while n bodies code body)
    turns_hold zero = turn_holds (λ s turns. Faulted X.Turns) (λ s m turns. tt)
    turns_hold (suc n) = turn_holds (turns_while n bodies code body) (turns_hold n)

    over_holds : (vs : List Value) → Holds (repeated i) (turns_over vs body)
    over_holds [] s m turns = no_turn i s m
    over_holds (v ∷ vs) s m turns =
        only_enter (Adds marker (repeated i) (length s.submits)) turns _ (λ turns.
        only_followed (Adds marker i (length s.submits)) (Adds marker (repeated i) (length s.submits)) (scoped (λ s turns. body (declared s v) turns) s turns) _
        (scoped_holds i (λ s turns. body (declared s v) turns) (λ s m turns. h (declared s v) m turns) s m turns)
        (again_holds i (length s.submits) (turns_over vs body) (over_holds vs)))

  -- ---- statements

  counted_by : (x : Statement) (form : Statement-F Statement) → out-Statement x ≡ form
      → Holds (level_interval marker (map-Statement Statement Interval (statement_interval marker) form)) (statement_acts bodies x) → Counted x
  counted_by x form p h =
      subst (λ (i : Interval). Holds i (statement_acts bodies x))
      (sym (fold_out-Statement Interval (level_interval marker) x ∙ ap (λ y. level_interval marker (map-Statement Statement Interval (statement_interval marker) y)) p)) h

  -- what changes no submits
  quiet : (s : State) → s.env.punct ≡ marker → (turns : ℕ) → Only (Adds marker (exactly 0) (length s.submits)) (Done (F.Next, s) turns)
  quiet s m turns = nothing_added marker s m

  change_holds : (place : Place) (change : Change (Code Slot)) → Holds (exactly 0) (statement_acts bodies (T.Change place change))
  change_holds place change = holds_by (exactly 0) _ _ (change_is bodies place change) (λ s m turns.
      only_then (Adds marker (exactly 0) (length s.submits)) (change_values bodies place change s turns) _ (λ w turns.
      only_need (Adds marker (exactly 0) (length s.submits)) (slice_get s.env.vars place.variable) _ (λ old.
      only_then (Adds marker (exactly 0) (length s.submits)) (settled (changed w.0 (change_of w.1) (Some old)) turns) _ (λ new turns.
      nothing_added marker (with_vars s (slice_set s.env.vars place.variable new)) m))))

  call_holds : (i : ℕ) (codes : List (Code Slot)) → Holds (exactly 0) (statement_acts bodies (T.Call i codes))
  call_holds i codes = holds_by (exactly 0) _ _ (call_is bodies i codes) (λ s m turns.
      only_then (Adds marker (exactly 0) (length s.submits)) (all_of (map (code_value (calls_by bodies)) codes) (world_of s.env) turns) _ (λ values turns.
      only_enter (Adds marker (exactly 0) (length s.submits)) turns _ (λ turns.
      only_then (Adds marker (exactly 0) (length s.submits)) (bodies i values turns) _ (λ returned turns. nothing_added marker s m))))

  abbrev returning : Interval
  returning = record { least = 0; most = Some 0; returns = true }

  returns_nothing : (v : Option Value) (s : State) → s.env.punct ≡ marker → Adds marker returning (length s.submits) (F.Returned v, s)
  returns_nothing v s m = record { same = m; grows = omega arith; least = λ next. absurd next; most = omega arith; returned = λ r. refl }

  return_holds : (code : Option (Code Slot)) → Holds returning (return_acts bodies code)
  return_holds None s m turns = returns_nothing None s m
  return_holds (Some code) s m turns =
      only_then (Adds marker returning (length s.submits)) (value_in bodies code s turns) _ (λ v turns. returns_nothing (Some v) s m)

  ends_row : (flow : Flow) → (HasReturned flow → ⊥) → (s : State) → s.env.punct ≡ marker → Adds marker (exactly 0) (length s.submits) (flow, s)
  ends_row flow not s m = record { same = m; grows = omega arith; least = λ next. omega arith; most = omega arith; returned = λ r. absurd (not r) }

  submit_holds : (port : ℕ) (code : Code Slot) → Holds (exactly 1) (statement_acts bodies (T.Submit port code))
  submit_holds port code = holds_by (exactly 1) _ _ (submit_is bodies port code) (λ s m turns.
      only_then (Adds marker (exactly 1) (length s.submits)) (value_in bodies code s turns) _ (λ v turns.
      only_need (Adds marker (exactly 1) (length s.submits)) (level_tuple (out-Value v)) _ (λ values. one_added marker s m port (I.Tuple values))))

  for_holds : (code : Code Slot) (row : List Statement) → AllByRecursion Counted row → Holds (repeated (row_interval marker row)) (statement_acts bodies (T.For code row))
  for_holds code row h = holds_by (repeated (row_interval marker row)) _ _ (for_is bodies code row) (λ s m turns.
      only_then (Adds marker (repeated (row_interval marker row)) (length s.submits)) (value_in bodies code s turns) _ (λ v turns.
      only_need (Adds marker (repeated (row_interval marker row)) (length s.submits)) (level_elements (out-Value v)) _ (λ values.
      over_holds (row_interval marker row) code (row_acts bodies row) (row_holds row h) values s m turns)))

  abbrev arms_in : Statement-F Interval → List (Code Slot × List Interval)
  arms_in (S.If arms other) = arms
  arms_in _ = []

  arms_mapped : (arms : List (Code Slot × List Statement)) (other : List Statement)
      → arms_in (map-Statement Statement Interval (statement_interval marker) (S.If arms other)) ≡ map arm_interval arms
  arms_mapped [] other = refl
  arms_mapped (arm ∷ arms) other = ap (λ rest. arm_interval arm ∷ rest) (arms_mapped arms other)

  if_counted : (arms : List (Code Slot × List Statement)) (other : List Statement) → AllByRecursion (OfArm Counted) arms → AllByRecursion Counted other → Counted (T.If arms other)
  if_counted arms other h k =
      counted_by (T.If arms other) (S.If arms other) (T.outs-If arms other)
      (subst (λ is. Holds (of_arms marker is (map (statement_interval marker) other)) (statement_acts bodies (T.If arms other))) (sym (arms_mapped arms other))
      (holds_by (of_arms marker (map arm_interval arms) (map (statement_interval marker) other)) _ _ (if_is bodies arms other) (arms_hold arms other h k)))

  steps : StatementSteps Counted
  steps = record {
    block = λ row h. counted_by (T.Block row) (S.Block row) (T.outs-Block row)
        (holds_by (row_interval marker row) _ _ (block_is bodies row) (scoped_holds (row_interval marker row) (row_acts bodies row) (row_holds row h)));
    declare = λ code. counted_by (T.Declare code) (S.Declare code) (T.outs-Declare code) (holds_by (exactly 0) _ _ (declare_is bodies code) (λ s m turns.
        only_then (Adds marker (exactly 0) (length s.submits)) (value_in bodies code s turns) _ (λ v turns. nothing_added marker (declared s v) m)));
    change = λ place change. counted_by (T.Change place change) (S.Change place change) (T.outs-Change place change) (change_holds place change);
    evaluate = λ code. counted_by (T.Evaluate code) (S.Evaluate code) (T.outs-Evaluate code) (holds_by (exactly 0) _ _ (evaluate_is bodies code) (λ s m turns.
        only_then (Adds marker (exactly 0) (length s.submits)) (value_in bodies code s turns) _ (λ v turns. nothing_added marker s m)));
    call = λ i codes. counted_by (T.Call i codes) (S.Call i codes) (T.outs-Call i codes) (call_holds i codes);
    if_true = if_counted;
    while = λ code row h. counted_by (T.While code row) (S.While code row) (T.outs-While code row) (holds_by (repeated (row_interval marker row)) _ _ (while_is bodies code row) (λ s m turns.
        turns_hold (row_interval marker row) code (scoped (row_acts bodies row)) (scoped_holds (row_interval marker row) (row_acts bodies row) (row_holds row h)) turns s m turns));
    for_each = λ code row h. counted_by (T.For code row) (S.For code row) (T.outs-For code row) (for_holds code row h);
    break = counted_by T.Break S.Break T.outs-Break (holds_by (exactly 0) _ _ (break_is bodies) (λ s m turns. ends_row F.Broken (λ r. r) s m));
    continue = counted_by T.Continue S.Continue T.outs-Continue (holds_by (exactly 0) _ _ (continue_is bodies) (λ s m turns. ends_row F.Continued (λ r. r) s m));
    return = λ code. counted_by (T.Return code) (S.Return code) (T.outs-Return code) (holds_by returning _ _ (return_is bodies code) (return_holds code));
    submit = λ port code. counted_by (T.Submit port code) (S.Submit port code) (T.outs-Submit port code) (submit_holds port code);
    submit_window = λ port. counted_by (T.SubmitWindow port) (S.SubmitWindow port) (T.outs-SubmitWindow port)
        (holds_by (exactly 1) _ _ (submit_window_is bodies port) (λ s m turns. one_added marker s m port I.Window));
  }

  statement_counted : (x : Statement) → Counted x
  statement_counted = statement_ind Counted steps

  row_counted : (row : List Statement) → AllByRecursion Counted row
  row_counted [] = tt
  row_counted (x ∷ row) = (statement_counted x, row_counted row)

  -- ---- bodies

  abbrev Within : List Statement → Left → Type 0
  Within row left = (least_number marker row ≤ length left.submits) × IsUpTo (greatest_number marker row) (length left.submits)

  up_to : (m : Option ℕ) (n : ℕ) → IsWithin m 0 n → IsUpTo m n
  up_to None n h = tt
  up_to (Some m) n h = omega arith

  least_if : (returns : Bool) (least n : ℕ) → (returns ≡ false → least ≤ n) → (if returns then 0 else least) ≤ n
  least_if true least n h = omega arith
  least_if false least n h = h refl

  left_within : (row : List Statement) (w : Flow × State) (turns : ℕ) → Adds marker (row_interval marker row) 0 w → Only (Within row) (left_by w turns)
  left_within row (F.Next, s) turns a = (
    least_if (row_interval marker row).returns (row_interval marker row).least (length s.submits) (λ e. (let h = a.least tt in omega arith)),
    up_to (greatest_number marker row) (length s.submits) a.most,
  )
  left_within row (F.Broken, s) turns a = tt
  left_within row (F.Continued, s) turns a = tt
  left_within row (F.Returned v, s) turns a = (
    least_if (row_interval marker row).returns (row_interval marker row).least (length s.submits) (λ e. absurd (let r : (row_interval marker row).returns ≡ true = a.returned tt in cc)),
    up_to (greatest_number marker row) (length s.submits) a.most,
  )

  body_within : (row : List Statement) (env : Env) → env.punct ≡ marker → (turns : ℕ) → Only (Within row) (body_leaves bodies row env turns)
  body_within row env m turns =
      only_followed (Adds marker (row_interval marker row) 0) (Within row) (scoped (row_acts bodies row) (record { env = env; submits = [] }) turns) _
      (scoped_holds (row_interval marker row) (row_acts bodies row) (row_holds row (row_counted row)) (record { env = env; submits = [] }) m turns)
      (left_within row)

pub interval_law : IntervalLaw
interval_law functions row env turns rest left e =
    subst (Only (Within env.punct (bodies_of functions turns) row)) e (body_within env.punct (bodies_of functions turns) row env refl turns)
