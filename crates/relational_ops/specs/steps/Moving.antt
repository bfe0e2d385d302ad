-- Which attributes are moved, of those that fields are alone.
use Rattle.std.specs.Prelude.{◌≡◌, ◌==◌, ℕ, Bool, true, false, List, length, slice_get, Option, None, Some}
use Rattle.std.specs.HashSet.{HashSet, contains}
use Rattle.spl_tree.specs.declared.code.Code.{Code}
use Rattle.spl_tree.specs.declared.code.Code.TheVariants as C
use Rattle.spl_tree.specs.declared.code.Slot.{Slot}
use Rattle.spl_tree.specs.declared.code.Slot.TheVariants as L

-- an attribute is among those that are moved
abbrev pub is_moved : {S : Type 0} → HashSet ℕ S → ℕ → Bool
is_moved moved a = contains (λ x y. x == y) moved a

-- what is moved stays so
abbrev pub Keeps : {S : Type 0} → HashSet ℕ S → HashSet ℕ S → Type 0
Keeps old new = (a : ℕ) → is_moved old a ≡ true → is_moved new a ≡ true

-- the attribute that a code is alone is moved, where it wasn't yet
abbrev pub Takes : {S : Type 0} → Code Slot → HashSet ℕ S → Option ℕ → HashSet ℕ S → Type 0
Takes code old (Some a) new = (code ≡ C.Name (L.Attribute 0 a)) × (is_moved old a ≡ false) × (is_moved new a ≡ true) × Keeps old new
Takes code old None new = Keeps old new

-- so far the fields that move an attribute are that one alone, no two move the same one, and what they move is among what is moved
pub record AreSoFar {S : Type 0} (fields : List (ℕ × Code Slot)) (moves : List (Option ℕ)) (moved : HashSet ℕ S) : Type 0 where
  pub alone : (i a : ℕ) (f : ℕ × Code Slot) → slice_get moves i ≡ Some (Some a) → slice_get fields i ≡ Some f → f.1 ≡ C.Name (L.Attribute 0 a)
  pub once : (i j a : ℕ) → slice_get moves i ≡ Some (Some a) → slice_get moves j ≡ Some (Some a) → i ≡ j
  pub marked : (i a : ℕ) → slice_get moves i ≡ Some (Some a) → is_moved moved a ≡ true
