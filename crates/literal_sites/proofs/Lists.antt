-- Lists that are gone through item by item.
use Rattle.std.specs.Prelude.{◌≡◌, ℕ, zero, suc, ◌+◌, ◌<◌, Bool, List, [], ◌∷◌, ◌++◌, map, reverse, length, drop}
use Rattle.std.specs.List.{list_any}
use Rattle.std.proofs.Common.{refl, ap, ◌∙◌, arith}
use Rattle.std.proofs.lemmas.List.{map-append, reverse-append}
use Rattle.spl_value.proofs.Lists.{any_map, any_reverse}

-- an item stands at a place before the end
pub some_at : {A : Type 0} (xs : List A) (i : ℕ) → i < length xs → (x : A) × (drop i xs ≡ x ∷ drop (suc i) xs)
some_at [] i h = absurd (omega arith)
some_at (x ∷ xs) zero h = (x, refl)
some_at (x ∷ xs) (suc i) h = some_at xs i (omega arith)

-- ---- tests of lists

-- of keys, the last one first
pub any_key : {A B : Type 0} (p : B → Bool) (f : A → B) (xs : List A) → list_any p (reverse (map f xs)) ≡ list_any (λ x. p (f x)) xs
any_key p f xs = any_reverse p (map f xs) ∙ any_map p f xs

pub keys_more : {A B : Type 0} (f : A → B) (xs ys : List A) (x : A) → ys ≡ xs ++ x ∷ [] → reverse (map f ys) ≡ f x ∷ reverse (map f xs)
keys_more f xs ys x e = ap (λ l. reverse (map f l)) e ∙ ap reverse (map-append f xs (x ∷ [])) ∙ reverse-append (map f xs) (f x ∷ [])
