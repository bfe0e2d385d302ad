-- Words for parts of the rules of statements: what the indexes of a place are, and what single statements and rows of them do.
use Rattle.std.specs.Prelude.{ℕ, List, map, Option, None, Some, slice_get, slice_set}
use Rattle.std.specs.Option.{option_map_or}
use Rattle.spl_value.specs.declared.value.Value.{Value}
use Rattle.spl_tree.specs.declared.body.Change.{Change}
use Rattle.spl_tree.specs.declared.body.Place.{Place}
use Rattle.spl_tree.specs.declared.body.Statement.{Statement}
use Rattle.spl_tree.specs.declared.body.Statement.TheFolds.{fold-Statement}
use Rattle.spl_tree.specs.declared.code.Code.{Code}
use Rattle.spl_tree.specs.declared.code.Slot.{Slot}
use Rattle.spl_tree.specs.declared.code.Selector.{Selector}
use Rattle.language_model.specs.declared.flow.Flow.{Flow}
use Rattle.language_model.specs.declared.flow.Flow.TheVariants as F
use Rattle.language_model.specs.Changes.{changed, change_of}
use Rattle.language_model.specs.Evaluation.{code_value, all_of, world_of}
use Rattle.language_model.specs.Outcomes.{Outcome, Done, followed, need, settled, enter}
use Rattle.language_model.specs.Statements.{State, Acts, Bodies, calls_by, value_in, with_vars, step_value, change_values, in_order, level_acts}

-- from left to right; nothing is looked up
abbrev pub step_values : Bodies → List (Selector (Code Slot)) → State → ℕ → Outcome (List (Selector Value))
step_values bodies ts s turns = all_of (map (step_value bodies) ts) s turns

-- the variables where what the steps take of one is changed
abbrev pub changed_at : ℕ → List (Selector Value) → Change Value → State → ℕ → Outcome (Flow × State)
changed_at i steps change s turns =
    need (slice_get s.env.vars i) (λ old.
    followed (settled (changed steps (change_of change) (Some old)) turns) (λ new turns. Done (F.Next, with_vars s (slice_set s.env.vars i new)) turns))

abbrev pub change_acts : Bodies → Place → Change (Code Slot) → Acts
change_acts bodies place change s turns =
    followed (change_values bodies place change s turns) (λ w turns. changed_at place.variable w.0 w.1 s turns)

-- what a function returns isn't used
abbrev pub call_acts : Bodies → ℕ → List (Code Slot) → Acts
call_acts bodies i codes s turns =
    followed (all_of (map (code_value (calls_by bodies)) codes) (world_of s.env) turns) (λ values turns.
    enter turns (λ turns. followed (bodies i values turns) (λ returned turns. Done (F.Next, s) turns)))

abbrev pub return_acts : Bodies → Option (Code Slot) → Acts
return_acts bodies code s turns =
    option_map_or (λ code. followed (value_in bodies code s turns) (λ v turns. Done (F.Returned (Some v), s) turns)) code (Done (F.Returned None, s) turns)

abbrev pub statement_acts : Bodies → Statement → Acts
statement_acts bodies = fold-Statement Acts (level_acts bodies)

abbrev pub row_acts : Bodies → List Statement → Acts
row_acts bodies row = in_order (map (statement_acts bodies) row)
