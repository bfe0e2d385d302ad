-- What stands first in two rows, one after the other.
use Rattle.std.specs.Prelude.{◌≡◌, List, [], ◌∷◌, ◌++◌, Some, None}
use Rattle.std.proofs.Common.{refl}
use Rattle.language_model.specs.Declarations.{first_of}

pub first_in_front : {A : Type 0} (xs ys : List A) (x : A) → Some x ≡ first_of xs → Some x ≡ first_of (xs ++ ys)
first_in_front [] ys x e = absurd cc
first_in_front (y ∷ xs) ys x e = e

pub first_behind : {A : Type 0} (xs ys : List A) → None ≡ first_of xs → first_of ys ≡ first_of (xs ++ ys)
first_behind [] ys e = refl
first_behind (x ∷ xs) ys e = absurd cc
