-- The callers that are taken: each after those that it calls.
use Rattle.std.specs.Prelude.{◌≡◌, ◌<◌, ◌≤◌, ◌⊎◌, ℕ, Bool, true, false, List, slice_get, Some, length}
use Rattle.spl_tree.specs.declared.expression.Placed.{Placed}
use Rattle.language_model.specs.Recursion.{Calls, IsCall}
use Rattle.place_sets.specs.declared.place_set.PlaceSet.{PlaceSet}
use Rattle.place_sets.specs.Places.{HasPlace, IsSet}
use Rattle.cycle_rules.specs.steps.Callers.{Calling}

-- it stands in the list before that place
pub record Before (places : List ℕ) (at : ℕ) (place : ℕ) : Type 0 where
  pub front : ℕ
  pub lower : front < at
  pub is : slice_get places front ≡ Some place

pub record IsTaken (calls : Calls) (taken : PlaceSet) : Type 0 where
  pub set : IsSet taken
  pub size : length taken.marks.items ≡ length calls
  pub callees : (k i j : ℕ) → slice_get taken.places.items k ≡ Some i → IsCall calls i j → Before taken.places.items k j

-- it calls one that isn't there
pub record Misses (calls : Calls) (places : List ℕ) (place : ℕ) : Type 0 where
  pub callee : ℕ
  pub call : IsCall calls place callee
  pub none : HasPlace places callee → ⊥

pub record Lacks (calls : List (Placed ℕ)) (places : List ℕ) : Type 0 where
  pub callee : ℕ
  pub calling : Calling calls callee
  pub none : HasPlace places callee → ⊥

-- all that the calls call is there, or one isn't
abbrev pub Readies : List (Placed ℕ) → List ℕ → Bool → Type 0
Readies calls places true = (to : ℕ) → Calling calls to → HasPlace places to
Readies calls places false = Lacks calls places

-- those that were taken stay at their places, and where none is added each of these places was taken or can't be
pub record Takes (calls : Calls) (places : List ℕ) (old new : PlaceSet) : Type 0 where
  pub now : IsTaken calls new
  pub kept : (k i : ℕ) → slice_get old.places.items k ≡ Some i → slice_get new.places.items k ≡ Some i
  pub grows : length old.places.items ≤ length new.places.items
  pub settled : length new.places.items ≡ length old.places.items → (i : ℕ) → i < length calls → HasPlace places i
      → HasPlace old.places.items i ⊎ Misses calls old.places.items i
