-- What holds of each slot that a statement names holds of each that a part of it names.
use Rattle.std.specs.Prelude.{◌≡◌, ℕ, List, [], ◌∷◌, ◌++◌, map, Option}
use Rattle.std.specs.List.{AllByRecursion, flat_map}
use Rattle.std.proofs.Common.{refl, ap, ◌∙◌, subst}
use Rattle.spl_tree.specs.declared.body.Change.{Change}
use Rattle.spl_tree.specs.declared.body.Place.{Place}
use Rattle.spl_tree.specs.declared.body.Statement.{Statement}
use Rattle.spl_tree.specs.declared.body.Statement.TheVariants as T
use Rattle.spl_tree.specs.declared.body.Statement.TheOpen as S
use Rattle.spl_tree.specs.declared.body.Statement.TheOpen.{Statement-F}
use Rattle.spl_tree.specs.declared.body.Statement.TheViews.{out-Statement}
use Rattle.spl_tree.specs.declared.body.Statement.TheFolds.{fold_out-Statement, map-Statement}
use Rattle.spl_tree.specs.declared.code.Code.{Code}
use Rattle.spl_tree.specs.declared.code.Slot.{Slot}
use Rattle.spl_value.specs.Flattened.{flattened}
use Rattle.language_model.specs.Slots.{names_of, place_slots, change_slots, returned_slots, level_slots, statement_slots, row_slots}

-- ---- lists

module _ {A : Type 0} (P : A → Type 0) where
  abbrev pub All : List A → Type 0
  All = AllByRecursion P

  pub all_front : (xs ys : List A) → All (xs ++ ys) → All xs
  all_front [] ys h = tt
  all_front (x ∷ xs) ys h = (h.0, all_front xs ys h.1)

  pub all_behind : (xs ys : List A) → All (xs ++ ys) → All ys
  all_behind [] ys h = h
  all_behind (x ∷ xs) ys h = all_behind xs ys h.1

  pub all_of_any : ((x : A) → P x) → (xs : List A) → All xs
  all_of_any h [] = tt
  all_of_any h (x ∷ xs) = (h x, all_of_any h xs)

-- ---- statements

slots_at : (x : Statement) (form : Statement-F Statement) → out-Statement x ≡ form → statement_slots x ≡ level_slots (map-Statement Statement (List Slot) statement_slots form)
slots_at x form p = fold_out-Statement (List Slot) level_slots x ∙ ap (λ y. level_slots (map-Statement Statement (List Slot) statement_slots y)) p

pub joined_is : (row : List Statement) → flattened (map statement_slots row) ≡ row_slots row
joined_is [] = refl
joined_is (x ∷ row) = ap (λ ys. statement_slots x ++ ys) (joined_is row)

abbrev pub arm_slots : Code Slot × List Statement → List Slot
arm_slots arm = names_of arm.0 ++ row_slots arm.1

arms_joined : (arms : List (Code Slot × List Statement))
    → flat_map (λ (arm : Code Slot × List (List Slot)). names_of arm.0 ++ flattened arm.1) (map (λ (arm : Code Slot × List Statement). (arm.0, map statement_slots arm.1)) arms) ≡ flat_map arm_slots arms
arms_joined [] = refl
arms_joined (arm ∷ arms) =
    ap (λ xs. (names_of arm.0 ++ xs) ++ flat_map (λ (arm : Code Slot × List (List Slot)). names_of arm.0 ++ flattened arm.1) (map (λ (arm : Code Slot × List Statement). (arm.0, map statement_slots arm.1)) arms)) (joined_is arm.1)
    ∙ ap (λ ys. arm_slots arm ++ ys) (arms_joined arms)

module _ (P : Slot → Type 0) where
  -- of what a form names
  pub at_form : (x : Statement) (slots : List Slot) → statement_slots x ≡ slots → All P (statement_slots x) → All P slots
  at_form x slots e h = subst (All P) e h

pub block_slots : (row : List Statement) → statement_slots (T.Block row) ≡ row_slots row
block_slots row = slots_at (T.Block row) (S.Block row) (T.outs-Block row) ∙ joined_is row

pub declare_slots : (code : Code Slot) → statement_slots (T.Declare code) ≡ names_of code
declare_slots code = slots_at (T.Declare code) (S.Declare code) (T.outs-Declare code)

pub changed_slots : (place : Place) (change : Change (Code Slot)) → statement_slots (T.Change place change) ≡ place_slots place ++ change_slots change
changed_slots place change = slots_at (T.Change place change) (S.Change place change) (T.outs-Change place change)

pub evaluate_slots : (code : Code Slot) → statement_slots (T.Evaluate code) ≡ names_of code
evaluate_slots code = slots_at (T.Evaluate code) (S.Evaluate code) (T.outs-Evaluate code)

pub call_slots : (i : ℕ) (codes : List (Code Slot)) → statement_slots (T.Call i codes) ≡ flat_map names_of codes
call_slots i codes = slots_at (T.Call i codes) (S.Call i codes) (T.outs-Call i codes)

pub if_slots : (arms : List (Code Slot × List Statement)) (other : List Statement) → statement_slots (T.If arms other) ≡ flat_map arm_slots arms ++ row_slots other
if_slots arms other =
    slots_at (T.If arms other) (S.If arms other) (T.outs-If arms other)
    ∙ ap (λ xs. xs ++ flattened (map statement_slots other)) (arms_joined arms)
    ∙ ap (λ ys. flat_map arm_slots arms ++ ys) (joined_is other)

pub while_slots : (code : Code Slot) (row : List Statement) → statement_slots (T.While code row) ≡ names_of code ++ row_slots row
while_slots code row = slots_at (T.While code row) (S.While code row) (T.outs-While code row) ∙ ap (λ xs. names_of code ++ xs) (joined_is row)

pub for_slots : (code : Code Slot) (row : List Statement) → statement_slots (T.For code row) ≡ names_of code ++ row_slots row
for_slots code row = slots_at (T.For code row) (S.For code row) (T.outs-For code row) ∙ ap (λ xs. names_of code ++ xs) (joined_is row)

pub return_slots : (code : Option (Code Slot)) → statement_slots (T.Return code) ≡ returned_slots code
return_slots code = slots_at (T.Return code) (S.Return code) (T.outs-Return code)

pub submit_slots : (port : ℕ) (code : Code Slot) → statement_slots (T.Submit port code) ≡ names_of code
submit_slots port code = slots_at (T.Submit port code) (S.Submit port code) (T.outs-Submit port code)

pub submit_window_slots : (port : ℕ) → statement_slots (T.SubmitWindow port) ≡ []
submit_window_slots port = slots_at (T.SubmitWindow port) (S.SubmitWindow port) (T.outs-SubmitWindow port)
