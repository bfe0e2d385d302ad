-- Induction over statements, as over plain data.
use Rattle.std.specs.Prelude.{ℕ, List, [], ◌∷◌, map, Option}
use Rattle.std.specs.List.{AllByRecursion}
use Rattle.std.proofs.Common.{subst, sym}
use Rattle.spl_tree.specs.declared.body.Change.{Change}
use Rattle.spl_tree.specs.declared.body.Place.{Place}
use Rattle.spl_tree.specs.declared.body.Statement.{Statement}
use Rattle.spl_tree.specs.declared.body.Statement.TheVariants as T
use Rattle.spl_tree.specs.declared.body.Statement.TheOpen as S
use Rattle.spl_tree.specs.declared.body.Statement.TheOpen.{Statement-F}
use Rattle.spl_tree.specs.declared.body.Statement.TheViews.{roll-Statement}
use Rattle.spl_tree.specs.declared.body.Statement.TheFolds.{ind-Statement, map-Statement}
use Rattle.spl_tree.specs.declared.code.Code.{Code}
use Rattle.spl_tree.specs.declared.code.Slot.{Slot}

-- P holds of each statement of the row after a condition
abbrev pub OfArm : (Statement → Type 0) → Code Slot × List Statement → Type 0
OfArm P arm = AllByRecursion P arm.1

-- P holds of a statement where it holds of each of its parts
pub record StatementSteps (P : Statement → Type 0) : Type 0 where
  pub block : (row : List Statement) → AllByRecursion P row → P (T.Block row)
  pub declare : (code : Code Slot) → P (T.Declare code)
  pub change : (place : Place) (change : Change (Code Slot)) → P (T.Change place change)
  pub evaluate : (code : Code Slot) → P (T.Evaluate code)
  pub call : (i : ℕ) (codes : List (Code Slot)) → P (T.Call i codes)
  pub if_true : (arms : List (Code Slot × List Statement)) (other : List Statement) → AllByRecursion (OfArm P) arms → AllByRecursion P other → P (T.If arms other)
  pub while : (code : Code Slot) (row : List Statement) → AllByRecursion P row → P (T.While code row)
  pub for_each : (code : Code Slot) (row : List Statement) → AllByRecursion P row → P (T.For code row)
  pub break : P T.Break
  pub continue : P T.Continue
  pub return : (code : Option (Code Slot)) → P (T.Return code)
  pub submit : (port : ℕ) (code : Code Slot) → P (T.Submit port code)
  pub submit_window : (port : ℕ) → P (T.SubmitWindow port)

module _ (P : Statement → Type 0) where
  abbrev Known : Type 0
  Known = (x : Statement) × P x

  abbrev row_of : List Known → List Statement
  row_of es = map (λ (e : Known). e.0) es

  abbrev arms_of : List (Code Slot × List Known) → List (Code Slot × List Statement)
  arms_of arms = map (λ (arm : Code Slot × List Known). (arm.0, row_of arm.1)) arms

  all_known : (es : List Known) → AllByRecursion P (row_of es)
  all_known [] = tt
  all_known (e ∷ es) = (e.1, all_known es)

  all_arms : (arms : List (Code Slot × List Known)) → AllByRecursion (OfArm P) (arms_of arms)
  all_arms [] = tt
  all_arms (arm ∷ arms) = (all_known arm.1, all_arms arms)

module _ (P : Statement → Type 0) (s : StatementSteps P) where
  statement_step : (y : Statement-F (Known P)) → P (roll-Statement (map-Statement (Known P) Statement (λ e. e.0) y))
  statement_step (S.Block es) = subst P (sym (T.rolls-Block (row_of P es))) (s.block (row_of P es) (all_known P es))
  statement_step (S.Declare code) = subst P (sym (T.rolls-Declare code)) (s.declare code)
  statement_step (S.Change place change) = subst P (sym (T.rolls-Change place change)) (s.change place change)
  statement_step (S.Evaluate code) = subst P (sym (T.rolls-Evaluate code)) (s.evaluate code)
  statement_step (S.Call i codes) = subst P (sym (T.rolls-Call i codes)) (s.call i codes)
  statement_step (S.If arms es) =
      subst P (sym (T.rolls-If (arms_of P arms) (row_of P es))) (s.if_true (arms_of P arms) (row_of P es) (all_arms P arms) (all_known P es))
  statement_step (S.While code es) = subst P (sym (T.rolls-While code (row_of P es))) (s.while code (row_of P es) (all_known P es))
  statement_step (S.For code es) = subst P (sym (T.rolls-For code (row_of P es))) (s.for_each code (row_of P es) (all_known P es))
  statement_step S.Break = subst P (sym T.rolls-Break) s.break
  statement_step S.Continue = subst P (sym T.rolls-Continue) s.continue
  statement_step (S.Return code) = subst P (sym (T.rolls-Return code)) (s.return code)
  statement_step (S.Submit port code) = subst P (sym (T.rolls-Submit port code)) (s.submit port code)
  statement_step (S.SubmitWindow port) = subst P (sym (T.rolls-SubmitWindow port)) (s.submit_window port)

  pub statement_ind : (x : Statement) → P x
  statement_ind = ind-Statement P (λ x y is. subst (λ z. P (roll-Statement z)) is (statement_step y))
