-- Rows that are gone through item by item.
use Rattle.std.specs.Prelude.{◌≡◌, ℕ, zero, suc, ◌+◌, ◌<◌, ◌≤◌, List, [], ◌∷◌, ◌++◌, length, map, take, flat_map}
use Rattle.std.proofs.Common.{refl, ap, ◌∙◌, arith, append-nil, get_or}
use Rattle.std.proofs.lemmas.Grind.{flat_map-append}
use Rattle.spl_value.proofs.Lists.{take_at as take_on}

-- what each item gives, one item more
pub gives_on : {A B : Type 0} (f : A → List B) (xs : List A) (i : ℕ) (x : A) → i < length xs → x ≡ get_or xs i x
    → flat_map f (take (i + 1) xs) ≡ flat_map f (take i xs) ++ f x
gives_on f xs i x h e =
    ap (flat_map f) (take_on xs i x h e)
    ∙ flat_map-append f (take i xs) (x ∷ [])
    ∙ ap (λ ys. flat_map f (take i xs) ++ ys) (append-nil (f x))

-- all of them are taken
pub all_taken : {A B C : Type 0} (f : B → C) (v : A → B) (xs : List A) (i : ℕ) → length xs ≤ i → map (λ x. f (v x)) (take i xs) ≡ map f (map v xs)
all_taken f v [] zero h = refl
all_taken f v [] (suc i) h = refl
all_taken f v (x ∷ xs) zero h = absurd (omega (arith, h))
all_taken f v (x ∷ xs) (suc i) h = let rest : length xs ≤ i = omega (arith, h) in ap (λ ys. f (v x) ∷ ys) (all_taken f v xs i rest)
