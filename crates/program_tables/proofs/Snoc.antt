-- Lists and what is made of them, an item longer.
use Rattle.std.proofs.Common.{◌≡◌, ◌∙◌, ℕ, zero, suc, List, [], ◌∷◌, ◌++◌, take, Option, Some, ap, map}
use Rattle.std.specs.Prelude.{slice_get, filter_map}
use Rattle.std.proofs.lemmas.List.{map-append}
use Rattle.std.proofs.lemmas.List.Elements.{filter_map-append}

pub take_snoc : {A : Type 0} (n : ℕ) (xs : List A) (x : A) → slice_get xs n ≡ Some x → take (suc n) xs ≡ take n xs ++ x ∷ []
take_snoc n [] x e = cc
take_snoc zero (y ∷ ys) x e = let s : y ≡ x = cc in ap (λ z. z ∷ []) s
take_snoc (suc n) (y ∷ ys) x e = ap (λ zs. y ∷ zs) (take_snoc n ys x e)

pub map_snoc : {A B : Type 0} (f : A → B) (xs ys : List A) (x : A) → ys ≡ xs ++ x ∷ [] → map f ys ≡ map f xs ++ f x ∷ []
map_snoc f xs ys x e = ap (map f) e ∙ map-append f xs (x ∷ [])

pub filter_snoc : {A B : Type 0} (h : A → Option B) (xs ys : List A) (x : A) → ys ≡ xs ++ x ∷ [] → filter_map h ys ≡ filter_map h xs ++ filter_map h (x ∷ [])
filter_snoc h xs ys x e = ap (filter_map h) e ∙ filter_map-append h xs (x ∷ [])
