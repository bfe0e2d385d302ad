-- Lists of which one is set, and the places in a list.
use Rattle.std.proofs.Common.{◌≡◌, ℕ, zero, suc, List, [], ◌∷◌, refl, ap, length, slice_get, arith}
use Rattle.std.specs.Prelude.{slice_set}

pub get_set_other : {A : Type 0} (xs : List A) (k j : ℕ) (x : A) → (k ≡ j → ⊥) → slice_get (slice_set xs k x) j ≡ slice_get xs j
get_set_other [] k j x apart = refl
get_set_other (y ∷ xs) zero zero x apart = absurd (apart refl)
get_set_other (y ∷ xs) zero (suc j) x apart = refl
get_set_other (y ∷ xs) (suc k) zero x apart = refl
get_set_other (y ∷ xs) (suc k) (suc j) x apart = get_set_other xs k j x (λ e. apart (ap suc e))

pub set_length : {A : Type 0} (xs : List A) (k : ℕ) (x : A) → length (slice_set xs k x) ≡ length xs
set_length [] k x = refl
set_length (y ∷ xs) zero x = refl
set_length (y ∷ xs) (suc k) x = let rest = set_length xs k x in omega (arith, rest)
