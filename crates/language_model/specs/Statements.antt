-- What statements do: from the variables, the submits so far and the turns that there are, they lead to others and to a
-- way on. A turn of a loop takes one of the turns, as a call of a function does.
use Rattle.std.specs.Prelude.{ℕ, zero, suc, Bool, if◌then◌else◌, List, [], ◌∷◌, ◌++◌, map, length, take, Option, None, Some, slice_get, slice_set}
use Rattle.std.specs.Option.{option_map_or}
use Rattle.spl_value.specs.declared.item.FaultKind.TheVariants as K
use Rattle.spl_value.specs.declared.item.Item.{Item}
use Rattle.spl_value.specs.declared.item.Item.TheVariants as I
use Rattle.spl_value.specs.declared.value.Value.{Value}
use Rattle.spl_value.specs.declared.value.Value.TheOpen as O
use Rattle.spl_value.specs.declared.value.Value.TheOpen.{Value-F}
use Rattle.spl_value.specs.declared.value.Value.TheViews.{out-Value}
use Rattle.spl_tree.specs.declared.body.Change.{Change}
use Rattle.spl_tree.specs.declared.body.Change.TheVariants as H
use Rattle.spl_tree.specs.declared.body.Place.{Place}
use Rattle.spl_tree.specs.declared.body.Statement.{Statement}
use Rattle.spl_tree.specs.declared.body.Statement.TheOpen as S
use Rattle.spl_tree.specs.declared.body.Statement.TheOpen.{Statement-F}
use Rattle.spl_tree.specs.declared.body.Statement.TheFolds.{fold-Statement}
use Rattle.spl_tree.specs.declared.code.Code.{Code}
use Rattle.spl_tree.specs.declared.code.Slot.{Slot}
use Rattle.spl_tree.specs.declared.code.Selector.{Selector}
use Rattle.spl_tree.specs.declared.code.Selector.TheVariants as T
use Rattle.language_model.specs.declared.env.Env.{Env}
use Rattle.language_model.specs.declared.flow.Flow.{Flow}
use Rattle.language_model.specs.declared.flow.Flow.TheVariants as F
use Rattle.language_model.specs.declared.outs.Output.{Output}
use Rattle.language_model.specs.Changes.{step_of, changed, change_of}
use Rattle.language_model.specs.Evaluation.{Calls, code_value, all_of, truth, world_of}
use Rattle.language_model.specs.Outcomes.{Outcome, Done, Faulted, followed, need, settled, enter}

-- what a statement finds, and what it leaves: the submits stand in the order of the calls
pub record State : Type 0 where
  pub env : Env
  pub submits : List Output

-- where it leads, from the turns that there are
abbrev pub Acts : Type 0
Acts = State → ℕ → Outcome (Flow × State)

-- what the function at a place returns, from its arguments and the turns that there are
abbrev pub Bodies : Type 0
Bodies = ℕ → List Value → ℕ → Outcome (Option Value)

-- calls of functions that return a value, as expressions need them
abbrev pub calls_by : Bodies → Calls
calls_by bodies i values turns = followed (bodies i values turns) (λ returned turns. need returned (λ v. Done v turns))

-- the value of an expression
abbrev pub value_in : Bodies → Code Slot → State → ℕ → Outcome Value
value_in bodies code s turns = code_value (calls_by bodies) code (world_of s.env) turns

abbrev pub truth_in : Bodies → Code Slot → State → ℕ → Outcome Bool
truth_in bodies code s turns = truth (code_value (calls_by bodies) code) (world_of s.env) turns

-- ---- variables and submits

abbrev pub with_vars : State → List Value → State
with_vars s vars =
    record { env = record { inputs = s.env.inputs; vars = vars; punct = s.env.punct }; submits = s.submits }

-- a new variable after all others
abbrev pub declared : State → Value → State
declared s v = with_vars s (s.env.vars ++ v ∷ [])

-- the variables that were declared after a state end, and those that it had stay
abbrev pub scoped : Acts → Acts
scoped acts s turns =
    followed (acts s turns) (λ w turns. Done (w.0, with_vars w.1 (take (length s.env.vars) w.1.env.vars)) turns)

abbrev pub submitted : State → ℕ → Item → State
submitted s port item = record { env = s.env; submits = s.submits ++ record { port = port; item = item } ∷ [] }

-- ---- places

-- a step with the value of its index or key
abbrev pub step_value : Bodies → Selector (Code Slot) → State → ℕ → Outcome (Selector Value)
step_value bodies (T.Member i) s turns = Done (T.Member i) turns
step_value bodies (T.Element code) s turns =
    followed (value_in bodies code s turns) (λ v turns. Done (T.Element v) turns)
step_value bodies (T.AtKey code) s turns = followed (value_in bodies code s turns) (λ v turns. Done (T.AtKey v) turns)

-- the same as in an expression: each step is taken of what the steps before it give
abbrev pub steps_taken : Bodies → List (Selector (Code Slot)) → Value → State → ℕ → Outcome (List (Selector Value))
steps_taken bodies [] v s turns = Done [] turns
steps_taken bodies (t ∷ ts) v s turns = followed (step_value bodies t s turns) (λ step turns.
    followed (settled (step_of step v) turns) (λ u turns.
    followed (steps_taken bodies ts u s turns) (λ steps turns. Done (step ∷ steps) turns)))

-- a change with the value of its argument
abbrev pub change_value : Bodies → Change (Code Slot) → State → ℕ → Outcome (Change Value)
change_value bodies (H.Put code) s turns = followed (value_in bodies code s turns) (λ v turns. Done (H.Put v) turns)
change_value bodies (H.Append code) s turns =
    followed (value_in bodies code s turns) (λ v turns. Done (H.Append v) turns)
change_value bodies (H.Remove code) s turns =
    followed (value_in bodies code s turns) (λ v turns. Done (H.Remove v) turns)
change_value bodies H.Clear s turns = Done H.Clear turns

-- an assignment evaluates its right side, and then the indexes and keys of the place from left to right; nothing is
-- looked up. Every other change is a call, which evaluates the place and then its argument, as a call in an expression
-- does
abbrev pub change_values : Bodies → Place → Change (Code Slot) → State → ℕ
    → Outcome (List (Selector Value) × Change Value)
change_values bodies place (H.Put code) s turns = followed (change_value bodies (H.Put code) s turns) (λ change turns.
    followed (all_of (map (step_value bodies) place.takings) s turns) (λ steps turns. Done (steps, change) turns))
change_values bodies place change s turns = need (slice_get s.env.vars place.variable) (λ v.
    followed (steps_taken bodies place.takings v s turns) (λ steps turns.
    followed (change_value bodies change s turns) (λ change turns. Done (steps, change) turns)))

-- ---- rows

-- what follows a statement in its row
abbrev pub then_rest : Flow × State → ℕ → Acts → Outcome (Flow × State)
then_rest (F.Next, s) turns rest = rest s turns
then_rest (flow, s) turns rest = Done (flow, s) turns

abbrev pub in_order : List Acts → Acts
in_order [] s turns = Done (F.Next, s) turns
in_order (first ∷ rest) s turns = followed (first s turns) (λ w turns. then_rest w turns (in_order rest))

-- the row after the first condition that is true
abbrev pub first_true : Bodies → List (Code Slot × List Acts) → List Acts → Acts
first_true bodies [] other s turns = scoped (in_order other) s turns
first_true bodies (arm ∷ arms) other s turns =
    followed (truth_in bodies arm.0 s turns) (λ b turns.
    if b then scoped (in_order arm.1) s turns else first_true bodies arms other s turns)

-- ---- loops

-- what follows a turn of a loop
abbrev pub then_again : Flow × State → ℕ → Acts → Outcome (Flow × State)
then_again (F.Next, s) turns again = again s turns
then_again (F.Continued, s) turns again = again s turns
then_again (F.Broken, s) turns again = Done (F.Next, s) turns
then_again (F.Returned v, s) turns again = Done (F.Returned v, s) turns

-- where the condition is true, a turn of the body
abbrev pub turn_while : Bodies → Code Slot → Acts → Acts → Acts
turn_while bodies code body again s turns = followed (truth_in bodies code s turns) (λ b turns.
    if b then enter turns (λ turns. followed (body s turns) (λ w turns. then_again w turns again))
    else Done (F.Next, s) turns)

-- at most this number of turns, and one more: where the number is that of the turns that there are, it is never used up
abbrev pub turns_while : ℕ → Bodies → Code Slot → Acts → Acts
turns_while zero bodies code body = turn_while bodies code body (λ s turns. Faulted K.Turns)
turns_while (suc n) bodies code body = turn_while bodies code body (turns_while n bodies code body)

-- a turn of the body for each value, which is that of a new variable
abbrev pub turns_over : List Value → Acts → Acts
turns_over [] body s turns = Done (F.Next, s) turns
turns_over (v ∷ vs) body s turns =
    enter turns (λ turns. followed (scoped (λ s turns. body (declared s v) turns) s turns) (λ w turns.
    then_again w turns (turns_over vs body)))

-- the elements of a list, or the keys of a map by ascending order
abbrev pub level_elements : Value-F Value → Option (List Value)
level_elements (O.List vs) = Some vs
level_elements (O.Map ps) = Some (map (λ p. p.0) ps)
level_elements _ = None

-- ---- statements

abbrev pub level_tuple : Value-F Value → Option (List Value)
level_tuple (O.Tuple vs) = Some vs
level_tuple _ = None

-- what a statement does, from what the statements in it do. A change changes what the steps of its place take of the
-- variable; what a function that is called by a statement returns isn't used
abbrev pub level_acts : Bodies → Statement-F Acts → Acts
level_acts bodies (S.Block row) s turns = scoped (in_order row) s turns
level_acts bodies (S.Declare code) s turns =
    followed (value_in bodies code s turns) (λ v turns. Done (F.Next, declared s v) turns)
level_acts bodies (S.Change place change) s turns = followed (change_values bodies place change s turns) (λ w turns.
    need (slice_get s.env.vars place.variable) (λ old.
    followed (settled (changed w.0 (change_of w.1) (Some old)) turns) (λ new turns.
    Done (F.Next, with_vars s (slice_set s.env.vars place.variable new)) turns)))
level_acts bodies (S.Evaluate code) s turns =
    followed (value_in bodies code s turns) (λ v turns. Done (F.Next, s) turns)
level_acts bodies (S.Call i codes) s turns =
    followed (all_of (map (code_value (calls_by bodies)) codes) (world_of s.env) turns) (λ values turns.
    enter turns (λ turns. followed (bodies i values turns) (λ returned turns. Done (F.Next, s) turns)))
level_acts bodies (S.If arms other) s turns = first_true bodies arms other s turns
level_acts bodies (S.While code row) s turns = turns_while turns bodies code (scoped (in_order row)) s turns
level_acts bodies (S.For code row) s turns =
    followed (value_in bodies code s turns) (λ v turns. need (level_elements (out-Value v)) (λ values.
    turns_over values (in_order row) s turns))
level_acts bodies S.Break s turns = Done (F.Broken, s) turns
level_acts bodies S.Continue s turns = Done (F.Continued, s) turns
level_acts bodies (S.Return code) s turns =
    option_map_or (λ code. followed (value_in bodies code s turns) (λ v turns.
    Done (F.Returned (Some v), s) turns)) code (Done (F.Returned None, s) turns)
level_acts bodies (S.Submit port code) s turns =
    followed (value_in bodies code s turns) (λ v turns.
    need (level_tuple (out-Value v)) (λ values. Done (F.Next, submitted s port (I.Tuple values)) turns))
level_acts bodies (S.SubmitWindow port) s turns = Done (F.Next, submitted s port I.Window) turns

-- ---- bodies

-- what a body leaves: the variables that were there before it, the submits, and the value that it returned, where it
-- did
pub record Left : Type 0 where
  pub vars : List Value
  pub submits : List Output
  pub returned : Option Value

-- a body that ends otherwise than by its last statement or a `return` doesn't fit
abbrev pub returned_by : Flow → Option (Option Value)
returned_by F.Next = Some None
returned_by (F.Returned v) = Some v
returned_by _ = None

abbrev pub body_leaves : Bodies → List Statement → Env → ℕ → Outcome Left
body_leaves bodies row env turns =
    followed (scoped (in_order (map (fold-Statement Acts (level_acts bodies)) row))
    (record { env = env; submits = [] }) turns) (λ w turns.
    need (returned_by w.0) (λ v. Done (record { vars = w.1.env.vars; submits = w.1.submits; returned = v }) turns))
