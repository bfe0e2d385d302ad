-- Where a byte is found.
use Rattle.std.proofs.Common.{◌≡◌, ◌==◌, ◌∷◌, ◌∙◌, ◌<◌, [], ℕ, suc, List, Option, Some, None, refl, sym, ap, false, true, length, take, get_or, arith, inl, inr, MatchOption, eqb-true, length-take-le, get_or-take}
use Rattle.std.specs.List.{list_any}
use Rattle.std.proofs.lemmas.Bool.{cases_Bool}
use Rattle.memchr.specs.Find.{IsFirstByte, is_byte}
use Rattle.row_reader.specs.steps.Finding.{IsFirstAt}

nowhere : (byte : ℕ) (xs : List ℕ) → ((k : ℕ) → k < length xs → (get_or xs k 0 == byte) ≡ true → ⊥) → list_any (λ b. b == byte) xs ≡ false
nowhere byte [] h = refl
nowhere byte (x ∷ xs) h = elim (cases_Bool (x == byte)) [
  | inl here ↦ absurd (h 0 (omega arith) here)
  | inr other ↦ rw other (nowhere byte xs (λ k lt is. h (suc k) (omega arith) is))
]

pub found : (byte : ℕ) (xs : List ℕ) (r : Option ℕ) → IsFirstByte (is_byte byte) xs r → MatchOption r (list_any (λ b. b == byte) xs ≡ false) (IsFirstAt byte xs)
found byte xs None h = nowhere byte xs (λ k lt is. h k (omega arith) lt is)
found byte xs (Some i) h =
    let lt = h.0.high in
    let size : length (take i xs) ≡ i = length-take-le i xs (omega arith) in
    record {
      within = lt;
      before = nowhere byte (take i xs) (λ k below is. let b : k < i = omega (arith, size) in h.0.before k (omega arith) b (sym (ap (λ (v : ℕ). v == byte) (get_or-take i xs k 0 b)) ∙ is));
      here = eqb-true (get_or xs i 0) byte h.1;
    }
