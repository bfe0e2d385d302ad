-- The tuples that statements submit, an equation for each form.
use Rattle.std.specs.Prelude.{◌≡◌, ℕ, List, [], ◌∷◌, ◌++◌, map, Option}
use Rattle.std.proofs.Common.{refl, ap, ◌∙◌}
use Rattle.spl_tree.specs.declared.body.Change.{Change}
use Rattle.spl_tree.specs.declared.body.Place.{Place}
use Rattle.spl_tree.specs.declared.body.Statement.{Statement}
use Rattle.spl_tree.specs.declared.body.Statement.TheVariants as T
use Rattle.spl_tree.specs.declared.body.Statement.TheOpen as S
use Rattle.spl_tree.specs.declared.body.Statement.TheOpen.{Statement-F}
use Rattle.spl_tree.specs.declared.body.Statement.TheViews.{out-Statement}
use Rattle.spl_tree.specs.declared.body.Statement.TheFolds.{fold_out-Statement, map-Statement}
use Rattle.spl_tree.specs.declared.code.Code.{Code}
use Rattle.spl_tree.specs.declared.code.Slot.{Slot}
use Rattle.spl_value.specs.Flattened.{flattened}
use Rattle.stream_model.specs.Copies.{level_submits, submits_of}
use Rattle.attribute_flow.specs.steps.Agreements.{arms_submits, statement_submits}

abbrev Codes : Type 0
Codes = List (Code Slot)

pub submits_at : (x : Statement) (form : Statement-F Statement) → out-Statement x ≡ form
    → statement_submits x ≡ level_submits (map-Statement Statement Codes statement_submits form)
submits_at x form p = fold_out-Statement Codes level_submits x ∙ ap (λ y. level_submits (map-Statement Statement Codes statement_submits y)) p

pub block_is : (row : List Statement) → statement_submits (T.Block row) ≡ submits_of row
block_is row = submits_at (T.Block row) (S.Block row) (T.outs-Block row)

pub declare_is : (code : Code Slot) → statement_submits (T.Declare code) ≡ []
declare_is code = submits_at (T.Declare code) (S.Declare code) (T.outs-Declare code)

pub change_is : (place : Place) (change : Change (Code Slot)) → statement_submits (T.Change place change) ≡ []
change_is place change = submits_at (T.Change place change) (S.Change place change) (T.outs-Change place change)

pub evaluate_is : (code : Code Slot) → statement_submits (T.Evaluate code) ≡ []
evaluate_is code = submits_at (T.Evaluate code) (S.Evaluate code) (T.outs-Evaluate code)

pub call_is : (i : ℕ) (codes : Codes) → statement_submits (T.Call i codes) ≡ []
call_is i codes = submits_at (T.Call i codes) (S.Call i codes) (T.outs-Call i codes)

abbrev arms_in : Statement-F Codes → List (Code Slot × List Codes)
arms_in (S.If arms other) = arms
arms_in _ = []

pub if_is : (arms : List (Code Slot × List Statement)) (other : List Statement) → statement_submits (T.If arms other) ≡ arms_submits arms ++ submits_of other
if_is arms other = submits_at (T.If arms other) (S.If arms other) (T.outs-If arms other) ∙ ap (λ codes. codes ++ submits_of other) (along arms)
  where
    along : (arms : List (Code Slot × List Statement))
        → flattened (map (λ arm. flattened arm.1) (arms_in (map-Statement Statement Codes statement_submits (S.If arms other)))) ≡ arms_submits arms
    along [] = refl
    along (arm ∷ arms) = ap (λ codes. submits_of arm.1 ++ codes) (along arms)

pub while_is : (code : Code Slot) (row : List Statement) → statement_submits (T.While code row) ≡ submits_of row
while_is code row = submits_at (T.While code row) (S.While code row) (T.outs-While code row)

pub for_is : (code : Code Slot) (row : List Statement) → statement_submits (T.For code row) ≡ submits_of row
for_is code row = submits_at (T.For code row) (S.For code row) (T.outs-For code row)

pub break_is : statement_submits T.Break ≡ []
break_is = submits_at T.Break S.Break T.outs-Break

pub continue_is : statement_submits T.Continue ≡ []
continue_is = submits_at T.Continue S.Continue T.outs-Continue

pub return_is : (code : Option (Code Slot)) → statement_submits (T.Return code) ≡ []
return_is code = submits_at (T.Return code) (S.Return code) (T.outs-Return code)

pub submit_is : (port : ℕ) (code : Code Slot) → statement_submits (T.Submit port code) ≡ code ∷ []
submit_is port code = submits_at (T.Submit port code) (S.Submit port code) (T.outs-Submit port code)

pub submit_window_is : (port : ℕ) → statement_submits (T.SubmitWindow port) ≡ []
submit_window_is port = submits_at (T.SubmitWindow port) (S.SubmitWindow port) (T.outs-SubmitWindow port)

pub ruleset form_laws = (block_is, declare_is, change_is, evaluate_is, call_is, while_is, for_is, break_is, continue_is, return_is, submit_is, submit_window_is)
