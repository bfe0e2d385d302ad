-- What stands at a place of a list.
use Rattle.std.proofs.Common.{◌≡◌, ◌≤◌, ℕ, zero, suc, List, [], ◌∷◌, length, take, Some, refl, ap, arith}
use Rattle.std.specs.Prelude.{slice_get}

pub get_one : {A : Type 0} (xs : List A) (k : ℕ) (x y : A) → slice_get xs k ≡ Some x → slice_get xs k ≡ Some y → x ≡ y
get_one xs k x y e f = cc

pub take_front : {A : Type 0} (n : ℕ) (xs : List A) (k : ℕ) (x : A) → slice_get (take n xs) k ≡ Some x → slice_get xs k ≡ Some x
take_front zero xs k x e = cc
take_front (suc n) [] k x e = cc
take_front (suc n) (y ∷ xs) zero x e = e
take_front (suc n) (y ∷ xs) (suc k) x e = take_front n xs k x e

pub take_whole : {A : Type 0} (n : ℕ) (xs : List A) → length xs ≤ n → take n xs ≡ xs
take_whole zero [] h = refl
take_whole zero (x ∷ xs) h = absurd (omega arith)
take_whole (suc n) [] h = refl
take_whole (suc n) (x ∷ xs) h = ap (λ ys. x ∷ ys) (take_whole n xs (omega arith))
