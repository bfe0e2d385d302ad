-- What bodies submit: tuples and window markers, which close no stream.
use Rattle.std.specs.Prelude.{◌≡◌, ◌||◌, ℕ, Bool, true, false, List, [], ◌∷◌, ◌++◌, map, Option}
use Rattle.std.specs.List.{AllByRecursion, list_any}
use Rattle.std.proofs.Common.{refl, sym, ap, ◌∙◌}
use Rattle.std.proofs.lemmas.Bool.{and_from}
use Rattle.std.proofs.lemmas.List.Folds.{list_any-append}
use Rattle.spl_value.specs.declared.item.Item.{Item}
use Rattle.spl_value.specs.declared.item.Item.TheVariants as I
use Rattle.spl_tree.specs.declared.body.Function.{Function}
use Rattle.spl_tree.specs.declared.body.Statement.{Statement}
use Rattle.spl_tree.specs.declared.body.Statement.TheVariants as T
use Rattle.spl_tree.specs.declared.body.Statement.TheOpen as S
use Rattle.spl_tree.specs.declared.body.Statement.TheOpen.{Statement-F}
use Rattle.spl_tree.specs.declared.body.Statement.TheViews.{out-Statement}
use Rattle.spl_tree.specs.declared.body.Statement.TheFolds.{fold_out-Statement, map-Statement}
use Rattle.spl_tree.specs.declared.code.Code.{Code}
use Rattle.spl_tree.specs.declared.code.Slot.{Slot}
use Rattle.language_model.specs.declared.env.Env.{Env}
use Rattle.language_model.specs.declared.outs.Output.{Output}
use Rattle.language_model.specs.Functions.{bodies_of, runs}
use Rattle.language_model.specs.Outcomes.{Outcome, Done, Faulted, Stuck}
use Rattle.language_model.specs.Statements.{State, Left}
use Rattle.language_model.proofs.Returning.{Only}
use Rattle.language_model.proofs.StatementInduction.{OfArm, StatementSteps, statement_ind}
use Rattle.language_model.proofs.Keeping.{IsKept, LeftBy, all_pass, arms_pass, body_keeps, level_passes, statement_passes}
use Rattle.spl_value.specs.Numbered.{closes}

-- ---- all statements pass where everything passes

abbrev everything : {A : Type 0} → A → Bool
everything x = true

abbrev every_submit : ℕ → Option (Code Slot) → Bool
every_submit port code = true

abbrev passes : Statement → Bool
passes = statement_passes everything every_submit

abbrev Passes : Statement → Type 0
Passes x = passes x ≡ true

passes_by : (x : Statement) (form : Statement-F Statement) → out-Statement x ≡ form
    → level_passes everything every_submit (map-Statement Statement Bool passes form) ≡ true → Passes x
passes_by x form p h =
    fold_out-Statement Bool (level_passes everything every_submit) x ∙ ap (λ y. level_passes everything every_submit (map-Statement Statement Bool passes y)) p ∙ h

row_all : (row : List Statement) → AllByRecursion Passes row → all_pass (map passes row) ≡ true
row_all [] h = refl
row_all (x ∷ row) h = and_from (passes x) (all_pass (map passes row)) h.0 (row_all row h.1)

abbrev arms_in : Statement-F Bool → List (Code Slot × List Bool)
arms_in (S.If arms other) = arms
arms_in _ = []

arms_all : (arms : List (Code Slot × List Statement)) (other : List Statement) → AllByRecursion (OfArm Passes) arms
    → arms_pass (arms_in (map-Statement Statement Bool passes (S.If arms other))) ≡ true
arms_all [] other h = refl
arms_all (arm ∷ arms) other h = and_from (all_pass (map passes arm.1)) _ (row_all arm.1 h.0) (arms_all arms other h.1)

steps : StatementSteps Passes
steps = record {
  block = λ row h. passes_by (T.Block row) (S.Block row) (T.outs-Block row) (row_all row h);
  declare = λ code. passes_by (T.Declare code) (S.Declare code) (T.outs-Declare code) refl;
  change = λ place change. passes_by (T.Change place change) (S.Change place change) (T.outs-Change place change) refl;
  evaluate = λ code. passes_by (T.Evaluate code) (S.Evaluate code) (T.outs-Evaluate code) refl;
  call = λ i codes. passes_by (T.Call i codes) (S.Call i codes) (T.outs-Call i codes) refl;
  if_true = λ arms other h k. passes_by (T.If arms other) (S.If arms other) (T.outs-If arms other)
      (and_from (arms_pass (arms_in (map-Statement Statement Bool passes (S.If arms other)))) (all_pass (map passes other)) (arms_all arms other h) (row_all other k));
  while = λ code row h. passes_by (T.While code row) (S.While code row) (T.outs-While code row) (row_all row h);
  for_each = λ code row h. passes_by (T.For code row) (S.For code row) (T.outs-For code row) (row_all row h);
  break = passes_by T.Break S.Break T.outs-Break refl;
  continue = passes_by T.Continue S.Continue T.outs-Continue refl;
  return = λ code. passes_by (T.Return code) (S.Return code) (T.outs-Return code) refl;
  submit = λ port code. passes_by (T.Submit port code) (S.Submit port code) (T.outs-Submit port code) refl;
  submit_window = λ port. passes_by (T.SubmitWindow port) (S.SubmitWindow port) (T.outs-SubmitWindow port) refl;
}

all_statements : (row : List Statement) → AllByRecursion Passes row
all_statements [] = tt
all_statements (x ∷ row) = (statement_ind Passes steps x, all_statements row)

-- ---- no submit closes

abbrev some_closes : List Output → Bool
some_closes outs = list_any (λ o. closes o.item) outs

abbrev Open : State → Type 0
Open s = some_closes s.submits ≡ false

one_more : (outs : List Output) (port : ℕ) (x : Item) → closes x ≡ false → some_closes outs ≡ false → some_closes (outs ++ record { port = port; item = x } ∷ []) ≡ false
one_more outs port x apart h =
    list_any-append (λ (o : Output). closes o.item) outs (record { port = port; item = x } ∷ [])
    ∙ (λ i. h i || (apart i || false))

open_kept : (functions : List Function) (turns : ℕ) → IsKept (bodies_of functions turns) everything every_submit Open
open_kept functions turns = record {
  change = λ s i v p k. k;
  declare = λ s v k. k;
  end = λ s t k l. l;
  tuple = λ s port code turns left v us p e l k. one_more s.submits port (I.Tuple us) refl k;
  window = λ s port e k. one_more s.submits port I.Window refl k;
}

-- what a body submits
pub submits_open : (functions : List Function) (row : List Statement) (env : Env) (turns : ℕ)
    → Only (λ (left : Left). some_closes left.submits ≡ false) (runs functions row env turns)
submits_open functions row env turns =
    by (runs functions row env turns)
    (body_keeps (bodies_of functions turns) everything every_submit Open (open_kept functions turns) row env turns (row_all row (all_statements row)) refl)
  where
    by : (o : Outcome Left) → Only (LeftBy Open) o → Only (λ (left : Left). some_closes left.submits ≡ false) o
    by (Done left turns) h = ap some_closes (sym h.2) ∙ h.1
    by (Faulted kind) h = tt
    by Stuck h = tt
