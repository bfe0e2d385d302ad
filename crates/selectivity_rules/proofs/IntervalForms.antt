-- The intervals of statements by those of their parts, an equation for each form.
use Rattle.std.specs.Prelude.{◌≡◌, ℕ, List, [], ◌∷◌, map, true, Option, Some}
use Rattle.std.proofs.Common.{refl, ap, ◌∙◌}
use Rattle.spl_tree.specs.declared.body.Change.{Change}
use Rattle.spl_tree.specs.declared.body.Place.{Place}
use Rattle.spl_tree.specs.declared.body.Statement.{Statement}
use Rattle.spl_tree.specs.declared.body.Statement.TheVariants as T
use Rattle.spl_tree.specs.declared.body.Statement.TheOpen as S
use Rattle.spl_tree.specs.declared.body.Statement.TheOpen.{Statement-F}
use Rattle.spl_tree.specs.declared.body.Statement.TheViews.{out-Statement}
use Rattle.spl_tree.specs.declared.body.Statement.TheFolds.{fold_out-Statement, map-Statement}
use Rattle.spl_tree.specs.declared.code.Code.{Code}
use Rattle.spl_tree.specs.declared.code.Code.TheVariants as V
use Rattle.spl_tree.specs.declared.code.Code.TheOpen as O
use Rattle.spl_tree.specs.declared.code.Marker.{Marker}
use Rattle.spl_tree.specs.declared.code.Slot.{Slot}
use Rattle.stream_model.specs.Selectivity.{Interval, chosen, exactly, level_decided, level_interval, of_arms, repeated, row_interval}
use Rattle.stream_model.specs.parts.Selectivity.{decided}
use Rattle.selectivity_rules.specs.steps.Intervals.{arms_interval, statement_interval}

module _ (marker : Option Marker) where
  at : (x : Statement) (form : Statement-F Statement) → out-Statement x ≡ form
      → statement_interval marker x ≡ level_interval marker (map-Statement Statement Interval (statement_interval marker) form)
  at x form p = fold_out-Statement Interval (level_interval marker) x ∙ ap (λ y. level_interval marker (map-Statement Statement Interval (statement_interval marker) y)) p

  pub block_is : (row : List Statement) → statement_interval marker (T.Block row) ≡ row_interval marker row
  block_is row = at (T.Block row) (S.Block row) (T.outs-Block row)

  pub declare_is : (code : Code Slot) → statement_interval marker (T.Declare code) ≡ exactly 0
  declare_is code = at (T.Declare code) (S.Declare code) (T.outs-Declare code)

  pub change_is : (place : Place) (change : Change (Code Slot)) → statement_interval marker (T.Change place change) ≡ exactly 0
  change_is place change = at (T.Change place change) (S.Change place change) (T.outs-Change place change)

  pub evaluate_is : (code : Code Slot) → statement_interval marker (T.Evaluate code) ≡ exactly 0
  evaluate_is code = at (T.Evaluate code) (S.Evaluate code) (T.outs-Evaluate code)

  pub call_is : (i : ℕ) (codes : List (Code Slot)) → statement_interval marker (T.Call i codes) ≡ exactly 0
  call_is i codes = at (T.Call i codes) (S.Call i codes) (T.outs-Call i codes)

  pub if_is : (arms : List (Code Slot × List Statement)) (other : List Statement) → statement_interval marker (T.If arms other) ≡ arms_interval marker arms other
  if_is arms other = at (T.If arms other) (S.If arms other) (T.outs-If arms other) ∙ by_arms arms where
    arms_in : Statement-F Interval → List (Code Slot × List Interval)
    arms_in (S.If arms other) = arms
    arms_in _ = []

    by_arms : (arms : List (Code Slot × List Statement))
        → of_arms marker (arms_in (map-Statement Statement Interval (statement_interval marker) (S.If arms other))) (map (statement_interval marker) other) ≡ arms_interval marker arms other
    by_arms [] = refl
    by_arms (arm ∷ arms) = ap (chosen (decided marker arm.0) (row_interval marker arm.1)) (by_arms arms)

  pub while_is : (code : Code Slot) (row : List Statement) → statement_interval marker (T.While code row) ≡ repeated (row_interval marker row)
  while_is code row = at (T.While code row) (S.While code row) (T.outs-While code row)

  pub for_is : (code : Code Slot) (row : List Statement) → statement_interval marker (T.For code row) ≡ repeated (row_interval marker row)
  for_is code row = at (T.For code row) (S.For code row) (T.outs-For code row)

  pub break_is : statement_interval marker T.Break ≡ exactly 0
  break_is = at T.Break S.Break T.outs-Break

  pub continue_is : statement_interval marker T.Continue ≡ exactly 0
  continue_is = at T.Continue S.Continue T.outs-Continue

  pub return_is : (code : Option (Code Slot)) → statement_interval marker (T.Return code) ≡ record { least = 0; most = Some 0; returns = true }
  return_is code = at (T.Return code) (S.Return code) (T.outs-Return code)

  pub submit_is : (port : ℕ) (code : Code Slot) → statement_interval marker (T.Submit port code) ≡ exactly 1
  submit_is port code = at (T.Submit port code) (S.Submit port code) (T.outs-Submit port code)

  pub submit_window_is : (port : ℕ) → statement_interval marker (T.SubmitWindow port) ≡ exactly 1
  submit_window_is port = at (T.SubmitWindow port) (S.SubmitWindow port) (T.outs-SubmitWindow port)

pub ruleset interval_laws = (block_is, declare_is, change_is, evaluate_is, call_is, while_is, for_is, break_is, continue_is, return_is, submit_is, submit_window_is)

-- ---- conditions

module _ (marker : Option Marker) where
  pub decided_window : (m : Marker) → decided marker (V.IsMarker m) ≡ level_decided {A = Code Slot} marker (O.IsMarker m)
  decided_window m = ap (level_decided marker) (V.outs-IsMarker m)

pub ruleset decided_laws = (decided_window)
