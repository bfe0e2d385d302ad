-- Which attributes of the tuple that came are moved into the tuple that is made of it.
use Rattle.std.specs.Prelude.{◌≡◌, ℕ, List, length, slice_get, Option, Some}
use Rattle.spl_tree.specs.declared.code.Code.{Code}
use Rattle.spl_tree.specs.declared.code.Code.TheVariants as C
use Rattle.spl_tree.specs.declared.code.Slot.{Slot}
use Rattle.spl_tree.specs.declared.code.Slot.TheVariants as L

-- for each field of the code of a tuple, the attribute of the first port that is moved there, where one is: the field is that attribute
-- alone, and no attribute is moved to two fields
pub record AreMoves (fields : List (ℕ × Code Slot)) (moves : List (Option ℕ)) : Type 0 where
  pub each : length moves ≡ length fields
  pub alone : (i a : ℕ) (f : ℕ × Code Slot) → slice_get moves i ≡ Some (Some a) → slice_get fields i ≡ Some f → f.1 ≡ C.Name (L.Attribute 0 a)
  pub once : (i j a : ℕ) → slice_get moves i ≡ Some (Some a) → slice_get moves j ≡ Some (Some a) → i ≡ j

-- where the code is that of a tuple; to a tuple of another code nothing is moved
abbrev pub MovesFit : Code Slot → List (Option ℕ) → Type 0
MovesFit code moves = (fields : List (ℕ × Code Slot)) → code ≡ C.Tuple fields → AreMoves fields moves
