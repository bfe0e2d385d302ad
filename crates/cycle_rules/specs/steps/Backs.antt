-- Which calls lead back to a place, by the set of those that lead to it.
use Rattle.std.specs.Prelude.{◌≡◌, ◌<◌, ◌⊎◌, ℕ, Bool, true, false, List, slice_get, Some}
use Rattle.spl_tree.specs.declared.expression.Placed.{Placed}
use Rattle.language_model.specs.Recursion.{Calls, IsBack}
use Rattle.place_sets.specs.Places.{HasPlace}

abbrev pub BackBy : List ℕ → ℕ → Placed ℕ → Type 0
BackBy leading place call = (call.what ≡ place) ⊎ HasPlace leading call.what

abbrev pub TellsBack : List ℕ → ℕ → Placed ℕ → Bool → Type 0
TellsBack leading place call true = BackBy leading place call
TellsBack leading place call false = BackBy leading place call → ⊥

abbrev pub NoneBack : List ℕ → ℕ → List (Placed ℕ) → Type 0
NoneBack leading place calls = (i : ℕ) (c : Placed ℕ) → slice_get calls i ≡ Some c → BackBy leading place c → ⊥

pub record FirstBack (leading : List ℕ) (place : ℕ) (calls : List (Placed ℕ)) (at : ℕ) : Type 0 where
  pub number : ℕ
  pub call : Placed ℕ
  pub is_call : slice_get calls number ≡ Some call
  pub back : BackBy leading place call
  pub first : (i : ℕ) (c : Placed ℕ) → i < number → slice_get calls i ≡ Some c → BackBy leading place c → ⊥
  pub place_of : call.at ≡ at

-- the first call of the caller at that place that leads back to it
pub record IsRecursionAt (calls : Calls) (place : ℕ) (at : ℕ) : Type 0 where
  pub list : List (Placed ℕ)
  pub of_caller : slice_get calls place ≡ Some list
  pub number : ℕ
  pub call : Placed ℕ
  pub is_call : slice_get list number ≡ Some call
  pub back : IsBack calls place call
  pub first : (i : ℕ) (c : Placed ℕ) → i < number → slice_get list i ≡ Some c → IsBack calls place c → ⊥
  pub place_of : call.at ≡ at
