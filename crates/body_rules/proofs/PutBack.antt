-- Items that are found in lists, and put back where they stand.
use Rattle.std.specs.Prelude.{◌≡◌, ◌+◌, ℕ, zero, suc, Bool, true, false, List, [], ◌∷◌, if◌then◌else◌, slice_get, slice_set, Option, Some, None}
use Rattle.std.proofs.Common.{refl, ap, sym, subst, ◌∙◌, arith}
use Rattle.language_model.specs.Scopes.{At, at_place, first_from}

-- an item that is put back where it stands
pub put_back : {A : Type 0} (xs : List A) (i : ℕ) (x : A) → slice_get xs i ≡ Some x → slice_set xs i x ≡ xs
put_back [] i x e = cc
put_back (y ∷ ys) zero x e = let q : y ≡ x = cc in ap (λ z. z ∷ ys) (sym q)
put_back (y ∷ ys) (suc i) x e = ap (λ zs. y ∷ zs) (put_back ys i x e)

module _ {A : Type 0} (p : A → Bool) where
  -- what was found in a list that begins at a place is there
  abbrev Stands : List A → ℕ → Option (At A) → Type 0
  Stands xs i None = Unit {0}
  Stands xs i (Some a) = (k : ℕ) × (a.place ≡ i + k) × (slice_get xs k ≡ Some a.what)

  stands_later : (x : A) (xs : List A) (i : ℕ) (o : Option (At A)) → Stands xs (suc i) o → Stands (x ∷ xs) i o
  stands_later x xs i None h = tt
  stands_later x xs i (Some a) h = let place : a.place ≡ suc i + h.0 = h.1 in (suc h.0, omega arith, h.2)

  stands : (xs : List A) (i : ℕ) → Stands xs i (first_from p i xs)
  stands [] i = tt
  stands (x ∷ xs) i =
      elim (p x) as (λ b. Stands (x ∷ xs) i (if b then Some (at_place i x) else first_from p (suc i) xs)) [
        | true ↦ (0, omega arith, refl)
        | false ↦ stands_later x xs i (first_from p (suc i) xs) (stands xs (suc i))
      ]

  -- what is found stands at its place
  pub found_at : (xs : List A) (i : ℕ) (x : A) → first_from p 0 xs ≡ Some (at_place i x) → slice_get xs i ≡ Some x
  found_at xs i x e =
      let there : Stands xs 0 (Some (at_place i x)) = subst (Stands xs 0) e (stands xs 0) in
      let place : i ≡ 0 + there.0 = there.1 in
      let same : i ≡ there.0 = omega arith in
      ap (slice_get xs) same ∙ there.2
