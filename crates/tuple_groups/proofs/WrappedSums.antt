-- Sums that wrap at each step.
use Rattle.std.proofs.Common.{◌≡◌, ◌+ℤ◌, ◌*ℤ◌, ℕ, ℤ, pos, sym, ap, subst, ◌∙◌, arith, to_z, of_z, ◌-◌, ◌+◌, suc, Bool, true, false, nat_lt, refl}
use Rattle.std.specs.Prelude.{negsuc, unsigned_abs, IsTrue, FitsSigned, ◌≤◌, ◌^◌}
use Rattle.std.specs.Int.{w128}
use Rattle.std.proofs.lemmas.Int.{fits_signed_from_abs, ints, to_z-of_z}
use Rattle.std.proofs.lemmas.Bool.{ltb-true}
use Rattle.std.proofs.lemmas.Bool.Decides.{nat_tests}
use Rattle.spl_value.specs.declared.types.IntKind.{IntKind}
use Rattle.spl_value.specs.Values.{kind_holds, modulus}
use Rattle.spl_value.specs.Wrap.{wrapped}
use Rattle.spl_value.proofs.WrapLaws.{one_wrapped, wrapped_belongs, wrapped_congruent}
use Rattle.spl_value.proofs.Widths.{within, kept_in_128}

-- ---- numbers of a kind in 128 bits

fits_128 : (n : ℤ) → unsigned_abs n ≤ 2 ^ 65 → FitsSigned w128 n
fits_128 n h = fits_signed_from_abs w128 n (omega arith)

-- ---- sums

above : (t d q : ℕ) → (pos (suc t + d) +ℤ negsuc t) *ℤ pos q ≡ (pos (suc t + d) *ℤ pos q) +ℤ (negsuc t *ℤ pos q)
above t d q =
    let same : pos (suc t + d) +ℤ negsuc t ≡ pos d = omega (arith, ints) in
    ap (λ z. z *ℤ pos q) same ∙ products
  where
    products : pos d *ℤ pos q ≡ (pos (suc t + d) *ℤ pos q) +ℤ (negsuc t *ℤ pos q)
    products = grind (arith, ints)

below : (s d q : ℕ) → (pos s +ℤ negsuc (s + d)) *ℤ pos q ≡ (pos s *ℤ pos q) +ℤ (negsuc (s + d) *ℤ pos q)
below s d q =
    let same : pos s +ℤ negsuc (s + d) ≡ negsuc d = omega (arith, ints) in
    ap (λ z. z *ℤ pos q) same ∙ products
  where
    products : negsuc d *ℤ pos q ≡ (pos s *ℤ pos q) +ℤ (negsuc (s + d) *ℤ pos q)
    products = grind (arith, ints)

mixed : (s t q : ℕ) → (pos s +ℤ negsuc t) *ℤ pos q ≡ (pos s *ℤ pos q) +ℤ (negsuc t *ℤ pos q)
mixed s t q = by (nat_lt t s) refl
  where
    by : (b : Bool) → nat_lt t s ≡ b → (pos s +ℤ negsuc t) *ℤ pos q ≡ (pos s *ℤ pos q) +ℤ (negsuc t *ℤ pos q)
    by true e =
        let lt = ltb-true t s e in
        let more : suc t + (s - suc t) ≡ s = omega arith in
        subst (λ n. (pos n +ℤ negsuc t) *ℤ pos q ≡ (pos n *ℤ pos q) +ℤ (negsuc t *ℤ pos q)) more (above t (s - suc t) q)
    by false e =
        let le : s ≤ t = grind (arith, nat_tests) in
        let more : s + (t - s) ≡ t = omega arith in
        subst (λ n. (pos s +ℤ negsuc n) *ℤ pos q ≡ (pos s *ℤ pos q) +ℤ (negsuc n *ℤ pos q)) more (below s (t - s) q)

turned : (a b : ℤ) → a +ℤ b ≡ b +ℤ a
turned a b = omega (arith, ints)

pub times : (s t : ℤ) (q : ℕ) → (s +ℤ t) *ℤ pos q ≡ (s *ℤ pos q) +ℤ (t *ℤ pos q)
times (pos s) (pos t) q = grind (arith, ints)
times (pos s) (negsuc t) q = mixed s t q
times (negsuc s) (pos t) q = ap (λ z. z *ℤ pos q) (turned (negsuc s) (pos t)) ∙ mixed t s q ∙ turned (pos t *ℤ pos q) (negsuc s *ℤ pos q)
times (negsuc s) (negsuc t) q = grind (arith, ints)

linear : (w a b x y s t u : ℤ) → w ≡ (x +ℤ y) +ℤ s → x ≡ a +ℤ t → y ≡ b +ℤ u → w ≡ (a +ℤ b) +ℤ ((s +ℤ t) +ℤ u)
linear w a b x y s t u e f g = omega (arith, ints)

together : (q : ℕ) (w a b x y s t u : ℤ) → w ≡ (x +ℤ y) +ℤ s *ℤ pos q → x ≡ a +ℤ t *ℤ pos q → y ≡ b +ℤ u *ℤ pos q → w ≡ (a +ℤ b) +ℤ ((s +ℤ t) +ℤ u) *ℤ pos q
together q w a b x y s t u e f g =
    linear w a b x y (s *ℤ pos q) (t *ℤ pos q) (u *ℤ pos q) e f g
    ∙ ap (λ z. (a +ℤ b) +ℤ z) (ap (λ z. z +ℤ (u *ℤ pos q)) (sym (times s t q)) ∙ sym (times (s +ℤ t) u q))

-- a sum of wrapped numbers wraps as their sum does
pub wrapped_sum : (k : IntKind) (a b : ℤ) → wrapped k (wrapped k a +ℤ wrapped k b) ≡ wrapped k (a +ℤ b)
wrapped_sum k a b =
    let outer = wrapped_congruent k (wrapped k a +ℤ wrapped k b) in
    let left = wrapped_congruent k a in
    let right = wrapped_congruent k b in
    one_wrapped k (wrapped k (wrapped k a +ℤ wrapped k b)) (a +ℤ b) (wrapped_belongs k (wrapped k a +ℤ wrapped k b)) (
      (outer.0 +ℤ left.0) +ℤ right.0,
      together (modulus k) (wrapped k (wrapped k a +ℤ wrapped k b)) a b (wrapped k a) (wrapped k b) outer.0 left.0 right.0 outer.1 left.1 right.1,
    )

sum_below : (a b : ℤ) → unsigned_abs a ≤ 2 ^ 64 → unsigned_abs b ≤ 2 ^ 64 → unsigned_abs (a +ℤ b) ≤ 2 ^ 65
sum_below a b p q = omega (arith, ints)

-- two numbers of a kind are added in 128 bits
pub sum_kept : (k : IntKind) (a b : ℤ) → IsTrue (kind_holds k a) → IsTrue (kind_holds k b) → to_z w128 (of_z w128 (a +ℤ b)) ≡ a +ℤ b
sum_kept k a b p q = let small = sum_below a b (within k a p) (within k b q) in to_z-of_z w128 (a +ℤ b) (fits_128 (a +ℤ b) small)

-- one number more, as it is added
pub added : (k : IntKind) (n first sum t result : ℤ) → FitsSigned w128 n → first ≡ wrapped k (to_z w128 (of_z w128 n)) → sum ≡ wrapped k t
    → IsTrue (kind_holds k first) → IsTrue (kind_holds k result)
    → result ≡ wrapped k (to_z w128 (of_z w128 (to_z w128 (of_z w128 first) +ℤ to_z w128 (of_z w128 sum))))
    → to_z w128 (of_z w128 result) ≡ wrapped k (n +ℤ t)
added k n first sum t result fits is was p r e =
    let holds = subst (λ z. IsTrue (kind_holds k z)) (sym was) (wrapped_belongs k t) in
    let operands = (λ i. to_z w128 (of_z w128 (kept_in_128 k first p i +ℤ kept_in_128 k sum holds i))) ∙ sum_kept k first sum p holds in
    kept_in_128 k result r ∙ e ∙ ap (wrapped k) (operands ∙ (λ i. (is ∙ ap (wrapped k) (to_z-of_z w128 n fits)) i +ℤ was i)) ∙ wrapped_sum k n t
