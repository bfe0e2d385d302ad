-- What rows and loops come to from where they have come.
use Rattle.std.specs.Prelude.{◌≡◌, ◌≤◌, ◌<◌, ◌+◌, ℕ, zero, suc, Bool, true, false, if◌then◌else◌, List, ◌∷◌, length, drop, get_or, None, Some, Result, Ok, Err}
use Rattle.std.proofs.Common.{refl, sym, ap, ◌∙◌, subst}
use Rattle.std.proofs.lemmas.List.{drop_all}
use Rattle.spl_value.specs.declared.item.FaultKind.TheVariants as K
use Rattle.spl_value.specs.declared.value.Value.{Value}
use Rattle.spl_tree.specs.declared.body.Function.{Function}
use Rattle.spl_tree.specs.declared.body.Statement.{Statement}
use Rattle.spl_tree.specs.declared.code.Code.{Code}
use Rattle.spl_tree.specs.declared.code.Slot.{Slot}
use Rattle.language_model.specs.declared.flow.Flow.{Flow}
use Rattle.language_model.specs.declared.flow.Flow.TheVariants as F
use Rattle.language_model.specs.Functions.{bodies_of}
use Rattle.language_model.specs.Outcomes.{Outcome, Done, Faulted, followed, enter}
use Rattle.language_model.specs.Statements.{State, Acts, Bodies, truth_in, scoped, declared, then_rest, then_again, turns_while, turns_over}
use Rattle.language_model.specs.parts.Statements.{statement_acts, row_acts}
use Rattle.language_model.specs.StatementLaws.{arms_act}
use Rattle.value_operations.specs.Answers.{StopsAs}
use Rattle.expr_eval.specs.Running.{EndsRow, EndsLoop, Leads}
use Rattle.expr_eval.specs.steps.Answered.{LoopGoes, RowGoes}
use Rattle.value_operations.specs.declared.stop.Stop.{Stop}
use Rattle.value_operations.specs.declared.stop.Stop.TheVariants as P
use Rattle.value_operations.proofs.Following.{enter_followed, followed_stops, stops_by}
use Rattle.spl_value.proofs.Lists.{drop_at}

-- what was answered, where it is a flow
pub led_to : (o : Outcome (Flow × State)) (answer : Result Flow Stop) (flow : Flow) → answer ≡ Ok flow → (w : State) (left : ℕ) → Leads o answer w left → o ≡ Done (flow, w) left
led_to o answer flow is w left h = subst (λ answer. Leads o answer w left) is h

-- ---- rows

module _ (bodies : Bodies) (row : List Statement) (i : ℕ) (x : Statement) (h : i < length row) (e : x ≡ get_or row i x) (s : State) (turns : ℕ) where
  row_rest : row_acts bodies (drop i row) s turns ≡ followed (statement_acts bodies x s turns) (λ w turns. then_rest w turns (row_acts bodies (drop (i + 1) row)))
  row_rest = ap (λ row. row_acts bodies row s turns) (drop_at row i x h e)

  row_stops : (stop : Stop) → StopsAs (statement_acts bodies x s turns) stop → StopsAs (row_acts bodies (drop i row) s turns) stop
  row_stops stop q =
      stops_by (row_acts bodies (drop i row) s turns) _ stop row_rest
      (followed_stops (statement_acts bodies x s turns) (λ w turns. then_rest w turns (row_acts bodies (drop (i + 1) row))) stop q)

  module _ (flow : Flow) (w : State) (left : ℕ) (is : statement_acts bodies x s turns ≡ Done (flow, w) left) where
    row_comes : row_acts bodies (drop i row) s turns ≡ then_rest (flow, w) left (row_acts bodies (drop (i + 1) row))
    row_comes = row_rest ∙ ap (λ o. followed o (λ w turns. then_rest w turns (row_acts bodies (drop (i + 1) row)))) is

    pub row_on : EndsRow flow None → row_acts bodies (drop i row) s turns ≡ row_acts bodies (drop (i + 1) row) w left
    row_on on = row_comes ∙ on w left (row_acts bodies (drop (i + 1) row))

    row_ends : (end : Flow) → EndsRow flow (Some end) → row_acts bodies (drop i row) s turns ≡ Done (end, w) left
    row_ends end ends = row_comes ∙ ends w left (row_acts bodies (drop (i + 1) row))

pub row_past : (bodies : Bodies) (row : List Statement) (i : ℕ) (s : State) (turns : ℕ) → length row ≤ i → row_acts bodies (drop i row) s turns ≡ Done (F.Next, s) turns
row_past bodies row i s turns h = ap (λ row. row_acts bodies row s turns) (drop_all i row h)

-- by what the statement answered
pub row_ended : (bodies : Bodies) (row : List Statement) (i : ℕ) (x : Statement) → i < length row → x ≡ get_or row i x → (s : State) (turns : ℕ)
    → (answer : Result Flow Stop) (w : State) (left : ℕ) → Leads (statement_acts bodies x s turns) answer w left → (end : Result Flow Stop) → RowGoes answer (Some end)
    → Leads (row_acts bodies (drop i row) s turns) end w left
row_ended bodies row i x h e s turns answer w left led (Ok end) goes =
    row_ends bodies row i x h e s turns goes.0 w left (led_to (statement_acts bodies x s turns) answer goes.0 goes.1 w left led) end goes.2
row_ended bodies row i x h e s turns answer w left led (Err stop) goes =
    row_stops bodies row i x h e s turns stop (subst (λ answer. Leads (statement_acts bodies x s turns) answer w left) goes led)

-- ---- arms

module _ (bodies : Bodies) (arms : List (Code Slot × List Statement)) (other : List Statement) (i : ℕ) (arm : Code Slot × List Statement) (h : i < length arms)
    (e : arm ≡ get_or arms i arm) (s : State) (turns : ℕ) where
  abbrev chosen : Bool → ℕ → Outcome (Flow × State)
  chosen b turns = if b then scoped (row_acts bodies arm.1) s turns else arms_act bodies (drop (i + 1) arms) other s turns

  arms_rest : arms_act bodies (drop i arms) other s turns ≡ followed (truth_in bodies arm.0 s turns) chosen
  arms_rest = ap (λ arms. arms_act bodies arms other s turns) (drop_at arms i arm h e)

  pub arms_stop : (stop : Stop) → StopsAs (truth_in bodies arm.0 s turns) stop → StopsAs (arms_act bodies (drop i arms) other s turns) stop
  arms_stop stop q = stops_by (arms_act bodies (drop i arms) other s turns) _ stop arms_rest (followed_stops (truth_in bodies arm.0 s turns) chosen stop q)

  module _ (b : Bool) (left : ℕ) (is : truth_in bodies arm.0 s turns ≡ Done b left) where
    pub arm_taken : b ≡ true → arms_act bodies (drop i arms) other s turns ≡ scoped (row_acts bodies arm.1) s left
    arm_taken is_true = arms_rest ∙ ap (λ o. followed o chosen) (is ∙ ap (λ b. Done b left) is_true)

    pub arm_passed : b ≡ false → arms_act bodies (drop i arms) other s turns ≡ arms_act bodies (drop (i + 1) arms) other s left
    arm_passed is_false = arms_rest ∙ ap (λ o. followed o chosen) (is ∙ ap (λ b. Done b left) is_false)

pub arms_past : (bodies : Bodies) (arms : List (Code Slot × List Statement)) (other : List Statement) (i : ℕ) (s : State) (turns : ℕ) → length arms ≤ i
    → arms_act bodies (drop i arms) other s turns ≡ scoped (row_acts bodies other) s turns
arms_past bodies arms other i s turns h = ap (λ arms. arms_act bodies arms other s turns) (drop_all i arms h)

-- ---- a loop with a condition

-- what follows the last of n turns and one
abbrev after_rounds : ℕ → Bodies → Code Slot → Acts → Acts
after_rounds zero bodies code body = λ s turns. Faulted K.Turns
after_rounds (suc n) bodies code body = turns_while n bodies code body

module _ (n : ℕ) (bodies : Bodies) (code : Code Slot) (body : Acts) (s : State) (turns : ℕ) where
  abbrev turn : ℕ → Outcome (Flow × State)
  turn turns = followed (body s turns) (λ w turns. then_again w turns (after_rounds n bodies code body))

  abbrev round : Bool → ℕ → Outcome (Flow × State)
  round b turns = if b then enter turns turn else Done (F.Next, s) turns

  round_is : turns_while n bodies code body s turns ≡ followed (truth_in bodies code s turns) round
  round_is = by n where
    by : (n : ℕ) → turns_while n bodies code body s turns
        ≡ followed (truth_in bodies code s turns) (λ b turns.
        if b then enter turns (λ turns. followed (body s turns) (λ w turns. then_again w turns (after_rounds n bodies code body))) else Done (F.Next, s) turns)
    by zero = refl
    by (suc n) = refl

  pub while_stops : (stop : Stop) → StopsAs (truth_in bodies code s turns) stop → StopsAs (turns_while n bodies code body s turns) stop
  while_stops stop q = stops_by (turns_while n bodies code body s turns) _ stop round_is (followed_stops (truth_in bodies code s turns) round stop q)

  module _ (b : Bool) (left : ℕ) (is : truth_in bodies code s turns ≡ Done b left) (holds : b ≡ true) where
    turn_comes : turns_while n bodies code body s turns ≡ enter left turn
    turn_comes = round_is ∙ ap (λ o. followed o round) (is ∙ ap (λ b. Done b left) holds)

    pub while_no_turns : (stop : Stop) → left ≡ 0 → stop ≡ P.Fault K.Turns → StopsAs (turns_while n bodies code body s turns) stop
    while_no_turns stop none same =
        subst (StopsAs (turns_while n bodies code body s turns)) (sym same) (turn_comes ∙ ap (λ left. enter left turn) none)

    module _ (after : ℕ) (entered : left ≡ suc after) where
      entered_comes : turns_while n bodies code body s turns ≡ turn after
      entered_comes = turn_comes ∙ ap (λ left. enter left turn) entered

      while_stops_in_turn : (stop : Stop) → StopsAs (body s after) stop → StopsAs (turns_while n bodies code body s turns) stop
      while_stops_in_turn stop q =
          stops_by (turns_while n bodies code body s turns) (turn after) stop entered_comes
          (followed_stops (body s after) (λ w turns. then_again w turns (after_rounds n bodies code body)) stop q)

      module _ (flow : Flow) (w : State) (rest : ℕ) (led : body s after ≡ Done (flow, w) rest) where
        led_comes : turns_while n bodies code body s turns ≡ then_again (flow, w) rest (after_rounds n bodies code body)
        led_comes = entered_comes ∙ ap (λ o. followed o (λ w turns. then_again w turns (after_rounds n bodies code body))) led

        while_ends : (end : Flow) → EndsLoop flow (Some end) → turns_while n bodies code body s turns ≡ Done (end, w) rest
        while_ends end ends = led_comes ∙ ends w rest (after_rounds n bodies code body)

        pub while_on : EndsLoop flow None → (m : ℕ) → n ≡ suc m → turns_while n bodies code body s turns ≡ turns_while m bodies code body w rest
        while_on on m one = led_comes ∙ on w rest (after_rounds n bodies code body) ∙ ap (λ n. after_rounds n bodies code body w rest) one

-- by what the body answered
pub while_ended : (n : ℕ) (bodies : Bodies) (code : Code Slot) (body : Acts) (s : State) (turns : ℕ) (b : Bool) (left : ℕ) → truth_in bodies code s turns ≡ Done b left → b ≡ true
    → (after : ℕ) → left ≡ suc after → (answer : Result Flow Stop) (w : State) (rest : ℕ) → Leads (body s after) answer w rest → (end : Result Flow Stop) → LoopGoes answer (Some end)
    → Leads (turns_while n bodies code body s turns) end w rest
while_ended n bodies code body s turns b left is holds after entered answer w rest led (Ok end) goes =
    while_ends n bodies code body s turns b left is holds after entered goes.0 w rest (led_to (body s after) answer goes.0 goes.1 w rest led) end goes.2
while_ended n bodies code body s turns b left is holds after entered answer w rest led (Err stop) goes =
    while_stops_in_turn n bodies code body s turns b left is holds after entered stop (subst (λ answer. Leads (body s after) answer w rest) goes led)

-- one that makes n turns and one at most
abbrev pub while_from : ℕ → List Function → ℕ → Code Slot → List Statement → Acts
while_from n functions depth code row = turns_while n (bodies_of functions depth) code (scoped (row_acts (bodies_of functions depth) row))

-- ---- a loop over values

module _ (values others : List Value) (v : Value) (body : Acts) (is : values ≡ v ∷ others) (s : State) (turns : ℕ) where
  abbrev first : Outcome (Flow × State)
  first = enter turns (λ turns. scoped (λ s turns. body (declared s v) turns) s turns)

  over_rest : turns_over values body s turns ≡ followed first (λ w turns. then_again w turns (turns_over others body))
  over_rest =
      ap (λ values. turns_over values body s turns) is
      ∙ enter_followed turns (λ turns. scoped (λ s turns. body (declared s v) turns) s turns) (λ w turns. then_again w turns (turns_over others body))

  pub over_on : (flow : Flow) (w : State) (left : ℕ) → first ≡ Done (flow, w) left → EndsLoop flow None → turns_over values body s turns ≡ turns_over others body w left
  over_on flow w left led on =
      over_rest ∙ ap (λ o. followed o (λ w turns. then_again w turns (turns_over others body))) led ∙ on w left (turns_over others body)

  -- by what the turn answered
  pub over_ended : (answer : Result Flow Stop) (w : State) (left : ℕ) → Leads first answer w left → (end : Result Flow Stop) → LoopGoes answer (Some end)
      → Leads (turns_over values body s turns) end w left
  over_ended answer w left led (Ok end) goes =
      over_rest ∙ ap (λ o. followed o (λ w turns. then_again w turns (turns_over others body))) (led_to first answer goes.0 goes.1 w left led)
      ∙ goes.2 w left (turns_over others body)
  over_ended answer w left led (Err stop) goes =
      stops_by (turns_over values body s turns) _ stop over_rest
      (followed_stops first (λ w turns. then_again w turns (turns_over others body)) stop (subst (λ answer. Leads first answer w left) goes led))
