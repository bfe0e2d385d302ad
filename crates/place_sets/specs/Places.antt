-- Which places a list has, and a set of places.
use Rattle.std.specs.Prelude.{◌≡◌, ◌⊎◌, ℕ, true, List, slice_get, Some, length}
use Rattle.place_sets.specs.declared.place_set.PlaceSet.{PlaceSet}

-- the list has the place
pub record HasPlace (places : List ℕ) (place : ℕ) : Type 0 where
  pub at : ℕ
  pub is : slice_get places at ≡ Some place

-- the places of the list are those that are marked, and none is in it twice
pub record IsSet (set : PlaceSet) : Type 0 where
  pub marked : (i : ℕ) → HasPlace set.places.items i → slice_get set.marks.items i ≡ Some true
  pub standing : (i : ℕ) → slice_get set.marks.items i ≡ Some true → HasPlace set.places.items i
  pub once : (k m i : ℕ) → slice_get set.places.items k ≡ Some i → slice_get set.places.items m ≡ Some i → k ≡ m

-- the places of the old set stay where they are, and after them come these, as far as they weren't there
pub record Widens (old new : PlaceSet) (places : List ℕ) : Type 0 where
  pub set : IsSet new
  pub size : length new.marks.items ≡ length old.marks.items
  pub kept : (k i : ℕ) → slice_get old.places.items k ≡ Some i → slice_get new.places.items k ≡ Some i
  pub came : (i : ℕ) → HasPlace places i → HasPlace new.places.items i
  pub only : (i : ℕ) → HasPlace new.places.items i → HasPlace old.places.items i ⊎ HasPlace places i
