-- Lists of heads, a place at a time.
use Rattle.std.proofs.Common.{◌≡◌, ◌<◌, ℕ, zero, suc, ◌+◌, List, [], ◌∷◌, ◌++◌, length, replicate, take, drop, set, slice_get, Option, Some, None, refl, sym, ap, ◌∙◌, arith, add-one}
use Rattle.spl_value.specs.declared.item.Item.{Item}
use Rattle.channel_heads.specs.Held.{no_heads}

pub replicate-more : {A : Type 0} (n : ℕ) (x : A) → replicate n x ++ x ∷ [] ≡ replicate (n + 1) x
replicate-more n x = go n ∙ ap (λ m. replicate m x) (sym (add-one n)) where
  go : (n : ℕ) → replicate n x ++ x ∷ [] ≡ replicate (suc n) x
  go zero = refl
  go (suc n) = ap (λ l. x ∷ l) (go n)

drops_one : (zs : List (Option (ℕ × Item))) (i : ℕ) → i < length zs → set (no_heads (take i zs) ++ drop i zs) i None ≡ no_heads (take (suc i) zs) ++ drop (suc i) zs
drops_one [] i h = absurd (omega arith)
drops_one (z ∷ zs) zero h = refl
drops_one (z ∷ zs) (suc i) h = ap (λ l. None ∷ l) (drops_one zs i (omega arith))

pub drops_more : (zs ys : List (Option (ℕ × Item))) (i : ℕ) → i < length zs → ys ≡ no_heads (take i zs) ++ drop i zs
    → set ys i None ≡ no_heads (take (i + 1) zs) ++ drop (i + 1) zs
drops_more zs ys i h e = rw add-one (ap (λ l. set l i None) e ∙ drops_one zs i h)

-- a place that has nothing keeps nothing
pub set-same : {A : Type 0} (xs : List A) (i : ℕ) (x : A) → slice_get xs i ≡ Some x → set xs i x ≡ xs
set-same [] i x e = refl
set-same (y ∷ xs) zero x e = let same : y ≡ x = cc in ap (λ z. z ∷ xs) (sym same)
set-same (y ∷ xs) (suc i) x e = ap (λ l. y ∷ l) (set-same xs i x e)
