-- Items that take a step one after another.
use Rattle.std.proofs.Common.{◌≡◌, ◌<◌, ◌≤◌, ◌+◌, ◌⊎◌, inl, inr, set, ℕ, zero, suc, List, [], ◌∷◌, ◌++◌, length, map, take, get_or, slice_get, Some, refl, sym, ap, subst, ◌∙◌, arith}
use Rattle.std.proofs.Math.ListN.{length-set}
use Rattle.spl_value.proofs.Lists.{get_within, set_elsewhere, set_here}
use Rattle.running_folds.specs.steps.Stepped.{Stepped}

same_or_other : (i k : ℕ) → (i ≡ k) ⊎ (i ≡ k → ⊥)
same_or_other zero zero = inl refl
same_or_other zero (suc k) = inr (λ e. absurd (omega (arith, e)))
same_or_other (suc i) zero = inr (λ e. absurd (omega (arith, e)))
same_or_other (suc i) (suc k) = next (same_or_other i k)
  where
    next : (i ≡ k) ⊎ (i ≡ k → ⊥) → (suc i ≡ suc k) ⊎ (suc i ≡ suc k → ⊥)
    next (inl e) = inl (ap suc e)
    next (inr other) = inr (λ e. other (omega (arith, e)))

pub some_same : {A : Type 0} (x y : A) → Some x ≡ Some y → x ≡ y
some_same x y e = cc

item_at : {A : Type 0} (xs : List A) (i : ℕ) (d : A) → i < length xs → slice_get xs i ≡ Some (get_or xs i d)
item_at [] i d within = absurd (omega (arith, within))
item_at (y ∷ xs) zero d within = refl
item_at (y ∷ xs) (suc i) d within = item_at xs i d (omega (arith, within))

module _ {A : Type 0} (Step : ℕ → A → A → Type 0) where
  pub none_stepped : (xs : List A) → Stepped Step 0 xs xs
  none_stepped xs = record { long = refl; each = λ k y is. (y, is, λ before. absurd (omega (arith, before)), λ after. refl) }

  module _ (at : ℕ) (old now : List A) (stepped : Stepped Step at old now) (within : at < length now) where
    -- what stands at the place is as it was
    pub stands : (d : A) → slice_get old at ≡ Some (get_or now at d)
    stands d =
        let there = item_at now at d within in
        let was = stepped.each at (get_or now at d) there in
        was.1 ∙ ap Some (was.3 (omega arith))

    pub one_stepped : (x y : A) → slice_get old at ≡ Some x → Step at x y → Stepped Step (at + 1) old (set now at y)
    one_stepped x y was step = record {
      long = length-set now at y ∙ stepped.long;
      each = λ k z is. by k z is (same_or_other at k);
    }
      where
        by : (k : ℕ) (z : A) → slice_get (set now at y) k ≡ Some z → (at ≡ k) ⊎ (at ≡ k → ⊥)
            → (x : A) × (slice_get old k ≡ Some x) × (k < at + 1 → Step k x z) × (at + 1 ≤ k → x ≡ z)
        by k z is (inl here) =
            let same : y ≡ z = some_same y z (sym (set_here now at y within) ∙ ap (slice_get (set now at y)) here ∙ is) in (
              x,
              ap (slice_get old) (sym here) ∙ was,
              λ before. subst (λ i. Step i x z) here (subst (Step at x) same step),
              λ after. absurd (omega arith),
            )
        by k z is (inr other) =
            let before = stepped.each k z (sym (set_elsewhere now at k y other) ∙ is) in (
              before.0,
              before.1,
              λ lt. before.2 (omega (arith, lt, other)),
              λ le. before.3 (omega arith),
            )

  pub all_stepped : (at : ℕ) (old now : List A) → Stepped Step at old now → length now ≤ at
      → (k : ℕ) (y : A) → slice_get now k ≡ Some y → (x : A) × (slice_get old k ≡ Some x) × Step k x y
  all_stepped at old now stepped all k y is =
      let was = stepped.each k y is in
      let within = get_within now k y is in
      (was.0, was.1, was.2 (omega arith))

-- what the steps leave as it was
pub map_same : {A B : Type 0} (f : A → B) (old now : List A) → length now ≡ length old
    → ((k : ℕ) (y : A) → slice_get now k ≡ Some y → (x : A) × (slice_get old k ≡ Some x) × (f y ≡ f x)) → map f now ≡ map f old
map_same f [] [] long each = refl
map_same f [] (y ∷ ys) long each = absurd (omega (arith, long))
map_same f (x ∷ xs) [] long each = absurd (omega (arith, long))
map_same f (x ∷ xs) (y ∷ ys) long each =
    let first = each 0 y refl in
    let same : x ≡ first.0 = some_same x first.0 first.1 in
    λ i. (first.2 ∙ ap f (sym same)) i ∷ map_same f xs ys (omega (arith, long)) (λ k z is. each (suc k) z is) i

-- what holds of each item holds with one more
pub each_more : {A : Type 0} (P : A → Type 0) (xs : List A) (x : A) → ((k : ℕ) (y : A) → slice_get xs k ≡ Some y → P y) → P x
    → (k : ℕ) (y : A) → slice_get (xs ++ x ∷ []) k ≡ Some y → P y
each_more P [] x each p zero y is = subst P (some_same x y is) p
each_more P [] x each p (suc k) y is = absurd cc
each_more P (z ∷ xs) x each p zero y is = each 0 y is
each_more P (z ∷ xs) x each p (suc k) y is = each_more P xs x (λ i w e. each (suc i) w e) p k y is

-- one item more is taken
pub take_next : {A : Type 0} (xs : List A) (i : ℕ) (d : A) → i < length xs → take i xs ++ get_or xs i d ∷ [] ≡ take (i + 1) xs
take_next {A = A} xs i d within = let after : suc i ≡ i + 1 = omega arith in by xs i within ∙ ap (λ n. take n xs) after
  where
    by : (xs : List A) (i : ℕ) → i < length xs → take i xs ++ get_or xs i d ∷ [] ≡ take (suc i) xs
    by [] i within = absurd (omega (arith, within))
    by (x ∷ xs) zero within = refl
    by (x ∷ xs) (suc i) within = ap (λ ys. x ∷ ys) (by xs i (omega (arith, within)))
