-- What each statement does by what its parts do, an equation for each form.
use Rattle.std.specs.Prelude.{◌≡◌, ℕ, if◌then◌else◌, List, [], ◌∷◌, map, Option}
use Rattle.std.proofs.Common.{refl, ap, ◌∙◌}
use Rattle.spl_value.specs.declared.item.Item.TheVariants as I
use Rattle.spl_value.specs.declared.value.Value.TheViews.{out-Value}
use Rattle.spl_tree.specs.declared.body.Change.{Change}
use Rattle.spl_tree.specs.declared.body.Place.{Place}
use Rattle.spl_tree.specs.declared.body.Statement.{Statement}
use Rattle.spl_tree.specs.declared.body.Statement.TheVariants as T
use Rattle.spl_tree.specs.declared.body.Statement.TheOpen as S
use Rattle.spl_tree.specs.declared.body.Statement.TheOpen.{Statement-F}
use Rattle.spl_tree.specs.declared.body.Statement.TheViews.{out-Statement}
use Rattle.spl_tree.specs.declared.body.Statement.TheFolds.{fold_out-Statement, map-Statement}
use Rattle.spl_tree.specs.declared.code.Code.{Code}
use Rattle.spl_tree.specs.declared.code.Slot.{Slot}
use Rattle.language_model.specs.declared.flow.Flow.TheVariants as F
use Rattle.language_model.specs.Outcomes.{Done, followed, need}
use Rattle.language_model.specs.Statements.{State, Acts, Bodies, value_in, truth_in, declared, scoped, submitted, first_true, turns_while, turns_over, level_elements, level_tuple, level_acts}
use Rattle.language_model.specs.parts.Statements.{change_acts, call_acts, return_acts, statement_acts, row_acts}

module _ (bodies : Bodies) where
  -- the row after the first condition that is true
  abbrev pub arms_act : List (Code Slot × List Statement) → List Statement → Acts
  arms_act [] other s turns = scoped (row_acts bodies other) s turns
  arms_act (arm ∷ arms) other s turns =
      followed (truth_in bodies arm.0 s turns) (λ b turns. if b then scoped (row_acts bodies arm.1) s turns else arms_act arms other s turns)

  at : (x : Statement) (form : Statement-F Statement) → out-Statement x ≡ form → (s : State) (turns : ℕ)
      → statement_acts bodies x s turns ≡ level_acts bodies (map-Statement Statement Acts (statement_acts bodies) form) s turns
  at x form p s turns =
      ap (λ acts. acts s turns) (fold_out-Statement Acts (level_acts bodies) x ∙ ap (λ y. level_acts bodies (map-Statement Statement Acts (statement_acts bodies) y)) p)

  pub block_is : (row : List Statement) (s : State) (turns : ℕ) → statement_acts bodies (T.Block row) s turns ≡ scoped (row_acts bodies row) s turns
  block_is row = at (T.Block row) (S.Block row) (T.outs-Block row)

  pub declare_is : (code : Code Slot) (s : State) (turns : ℕ)
      → statement_acts bodies (T.Declare code) s turns ≡ followed (value_in bodies code s turns) (λ v turns. Done (F.Next, declared s v) turns)
  declare_is code = at (T.Declare code) (S.Declare code) (T.outs-Declare code)

  pub change_is : (place : Place) (change : Change (Code Slot)) (s : State) (turns : ℕ)
      → statement_acts bodies (T.Change place change) s turns ≡ change_acts bodies place change s turns
  change_is place change = at (T.Change place change) (S.Change place change) (T.outs-Change place change)

  pub evaluate_is : (code : Code Slot) (s : State) (turns : ℕ)
      → statement_acts bodies (T.Evaluate code) s turns ≡ followed (value_in bodies code s turns) (λ v turns. Done (F.Next, s) turns)
  evaluate_is code = at (T.Evaluate code) (S.Evaluate code) (T.outs-Evaluate code)

  pub call_is : (i : ℕ) (codes : List (Code Slot)) (s : State) (turns : ℕ)
      → statement_acts bodies (T.Call i codes) s turns ≡ call_acts bodies i codes s turns
  call_is i codes = at (T.Call i codes) (S.Call i codes) (T.outs-Call i codes)

  pub if_is : (arms : List (Code Slot × List Statement)) (other : List Statement) (s : State) (turns : ℕ)
      → statement_acts bodies (T.If arms other) s turns ≡ arms_act arms other s turns
  if_is arms other s turns = at (T.If arms other) (S.If arms other) (T.outs-If arms other) s turns ∙ by_arms arms s turns where
    arms_of : Statement-F Acts → List (Code Slot × List Acts)
    arms_of (S.If arms other) = arms
    arms_of _ = []

    by_arms : (arms : List (Code Slot × List Statement)) (s : State) (turns : ℕ)
        → first_true bodies (arms_of (map-Statement Statement Acts (statement_acts bodies) (S.If arms other))) (map (statement_acts bodies) other) s turns ≡ arms_act arms other s turns
    by_arms [] s turns = refl
    by_arms (arm ∷ arms) s turns =
        λ i. followed (truth_in bodies arm.0 s turns) (λ b turns. if b then scoped (row_acts bodies arm.1) s turns else by_arms arms s turns i)

  pub while_is : (code : Code Slot) (row : List Statement) (s : State) (turns : ℕ)
      → statement_acts bodies (T.While code row) s turns ≡ turns_while turns bodies code (scoped (row_acts bodies row)) s turns
  while_is code row = at (T.While code row) (S.While code row) (T.outs-While code row)

  pub for_is : (code : Code Slot) (row : List Statement) (s : State) (turns : ℕ)
      → statement_acts bodies (T.For code row) s turns
      ≡ followed (value_in bodies code s turns) (λ v turns. need (level_elements (out-Value v)) (λ values. turns_over values (row_acts bodies row) s turns))
  for_is code row = at (T.For code row) (S.For code row) (T.outs-For code row)

  pub break_is : (s : State) (turns : ℕ) → statement_acts bodies T.Break s turns ≡ Done (F.Broken, s) turns
  break_is = at T.Break S.Break T.outs-Break

  pub continue_is : (s : State) (turns : ℕ) → statement_acts bodies T.Continue s turns ≡ Done (F.Continued, s) turns
  continue_is = at T.Continue S.Continue T.outs-Continue

  pub return_is : (code : Option (Code Slot)) (s : State) (turns : ℕ) → statement_acts bodies (T.Return code) s turns ≡ return_acts bodies code s turns
  return_is code = at (T.Return code) (S.Return code) (T.outs-Return code)

  pub submit_is : (port : ℕ) (code : Code Slot) (s : State) (turns : ℕ)
      → statement_acts bodies (T.Submit port code) s turns
      ≡ followed (value_in bodies code s turns) (λ v turns. need (level_tuple (out-Value v)) (λ values. Done (F.Next, submitted s port (I.Tuple values)) turns))
  submit_is port code = at (T.Submit port code) (S.Submit port code) (T.outs-Submit port code)

  pub submit_window_is : (port : ℕ) (s : State) (turns : ℕ) → statement_acts bodies (T.SubmitWindow port) s turns ≡ Done (F.Next, submitted s port I.Window) turns
  submit_window_is port = at (T.SubmitWindow port) (S.SubmitWindow port) (T.outs-SubmitWindow port)

pub ruleset statement_laws = (block_is, declare_is, change_is, evaluate_is, call_is, if_is, while_is, for_is, break_is, continue_is, return_is, submit_is, submit_window_is)
