-- Rows that grow by one, and what is known of each of their elements.
use Rattle.std.specs.Prelude.{◌≡◌, ℕ, ◌+◌, ◌<◌, ◌≤◌, List, [], ◌∷◌, ◌++◌, length, ◌⊎◌, Option, Some, slice_get}
use Rattle.std.proofs.Common.{ap, sym, subst, ◌∙◌, arith, inl, inr}
use Rattle.std.proofs.lemmas.Bool.{cases_lt}
use Rattle.std.proofs.lemmas.List.{length-append}
use Rattle.spl_value.proofs.Lists.{append_front, append_last, get_below}

module _ {A : Type 0} (done new : List A) (x : A) (count : ℕ) (size : length done ≡ count) (grown : new ≡ done ++ x ∷ []) where
  pub grown_size : length new ≡ count + 1
  grown_size = ap length grown ∙ length-append done (x ∷ []) ∙ ap (λ n. n + 1) size

  pub grown_each : (P : ℕ → Option A → Type 0) → P count (Some x) → ((k : ℕ) → k < count → P k (slice_get done k))
      → (k : ℕ) → k < count + 1 → P k (slice_get new k)
  grown_each P at before k h = by_place (cases_lt k count)
    where
      by_place : (k < count) ⊎ (count ≤ k) → P k (slice_get new k)
      by_place (inl less) =
          let there = get_below done k (omega (arith, less, size)) in
          subst (P k) (there.1 ∙ sym (ap (λ xs. slice_get xs k) grown ∙ append_front done (x ∷ []) k there.0 there.1)) (before k less)
      by_place (inr more) =
          let same : length done ≡ k = omega (arith, h, more, size) in
          subst (P k) (sym (ap (λ xs. slice_get xs k) grown ∙ ap (λ n. slice_get (done ++ x ∷ []) n) (sym same) ∙ append_last done x))
          (subst (λ n. P n (Some x)) (sym size ∙ same) at)
