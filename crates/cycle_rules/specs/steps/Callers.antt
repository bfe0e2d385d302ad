-- Who calls, and who leads to a place, by lists of callers.
use Rattle.std.specs.Prelude.{◌≡◌, ◌<◌, ◌⊎◌, ℕ, List, slice_get, Some, length}
use Rattle.spl_tree.specs.declared.expression.Placed.{Placed}
use Rattle.language_model.specs.Recursion.{Calls, IsCall}
use Rattle.place_sets.specs.Places.{HasPlace}

-- the list at that place has the other one
pub record Lists (lists : List (List ℕ)) (at of : ℕ) : Type 0 where
  pub list : List ℕ
  pub at_place : slice_get lists at ≡ Some list
  pub stands : HasPlace list of

-- what the list of a place has, and the lists of what is reached
pub data Reached (lists : List (List ℕ)) (from : ℕ) : ℕ → Type 0 where
  near : (i : ℕ) → Lists lists from i → Reached lists from i
  far : (j i : ℕ) → Reached lists from j → Lists lists j i → Reached lists from i

-- `count` lists with nothing in them
pub record AreEmpty (count : ℕ) (lists : List (List ℕ)) : Type 0 where
  pub size : length lists ≡ count
  pub nothing : (at of : ℕ) → Lists lists at of → ⊥

-- for each place the lists have those that call it
pub record AreCallers (calls : Calls) (callers : List (List ℕ)) : Type 0 where
  pub size : length callers ≡ length calls
  pub sound : (to from : ℕ) → Lists callers to from → IsCall calls from to
  pub whole : (to from : ℕ) → to < length calls → IsCall calls from to → Lists callers to from

-- what was listed is listed, and so is that one at that place
pub record Notes (old new : List (List ℕ)) (to from : ℕ) : Type 0 where
  pub size : length new ≡ length old
  pub kept : (at of : ℕ) → Lists old at of → Lists new at of
  pub noted : to < length old → Lists new to from
  pub only : (at of : ℕ) → Lists new at of → Lists old at of ⊎ ((at ≡ to) × (of ≡ from))

-- one of these calls the place
pub record Calling (calls : List (Placed ℕ)) (to : ℕ) : Type 0 where
  pub at : ℕ
  pub call : Placed ℕ
  pub is : slice_get calls at ≡ Some call
  pub callee : call.what ≡ to

-- what was listed is listed, and so is that one at each place that these calls call
pub record NotesAll (old new : List (List ℕ)) (calls : List (Placed ℕ)) (from : ℕ) : Type 0 where
  pub size : length new ≡ length old
  pub kept : (at of : ℕ) → Lists old at of → Lists new at of
  pub noted : (to : ℕ) → to < length old → Calling calls to → Lists new to from
  pub only : (at of : ℕ) → Lists new at of → Lists old at of ⊎ (Calling calls at × (of ≡ from))
