-- What wraps alike: numbers that are equal modulo 2 ^ 128 are so modulo the size of each kind.
use Rattle.std.specs.Prelude.{◌≡◌, ℕ, zero, suc, ◌*◌, ◌/◌, ◌<◌, ◌≤◌, ◌-◌, ◌^◌, true, false, nat_lt, ℤ, pos, negsuc, neg_ℤ, ◌+ℤ◌, ◌-ℤ◌, ◌*ℤ◌, FitsSigned, unsigned_abs}
use Rattle.std.specs.Int.{w128, int_wrap, int_rem_euclid}
use Rattle.std.proofs.Common.{refl, sym, ap, subst, ◌∙◌, to_z, of_z, arith}
use Rattle.std.proofs.Math.IntN.{suc_ℤ, pred_ℤ, +ℤ-suc_ℤ, +ℤ-pred_ℤ, suc_ℤ-*ℤ, pred_ℤ-*ℤ, +ℤ_idr, zero-*ℤ}
use Rattle.std.proofs.Math.Nat.{mul_assoc}
use Rattle.std.proofs.lemmas.Int.{ints}
use Rattle.spl_value.specs.declared.types.IntKind.{IntKind}
use Rattle.spl_value.specs.declared.types.IntKind.TheVariants.{I8, I16, I32, I64, U8, U16, U32, U64}
use Rattle.spl_value.specs.Values.{modulus}
use Rattle.spl_value.specs.Wrap.{IsCongruent, wrapped}
use Rattle.spl_value.proofs.WrapLaws.{wrapped_belongs, wrapped_congruent, one_wrapped, rem_congruent, rem_below}

-- ---- products

neg_times : (s : ℤ) (q : ℕ) → neg_ℤ s *ℤ pos q ≡ neg_ℤ (s *ℤ pos q)
neg_times s q = grind (arith, ints)

times_times : (s : ℤ) (p q : ℕ) → (s *ℤ pos p) *ℤ pos q ≡ s *ℤ pos (p * q)
times_times (pos a) p q = ap pos (mul_assoc a p q)
times_times (negsuc a) p q = neg_times (pos (suc a * p)) q ∙ ap (λ n. neg_ℤ (pos n)) (mul_assoc (suc a) p q)

times_none : (s : ℤ) (q : ℕ) → (s +ℤ pos 0) *ℤ pos q ≡ s *ℤ pos q +ℤ pos 0 *ℤ pos q
times_none s q =
    ap (λ z. z *ℤ pos q) (+ℤ_idr s) ∙ sym (+ℤ_idr (s *ℤ pos q)) ∙ ap (λ z. s *ℤ pos q +ℤ z) (sym (zero-*ℤ (pos q)))

one_more : (s t : ℤ) (q : ℕ) → (s +ℤ t) *ℤ pos q ≡ s *ℤ pos q +ℤ t *ℤ pos q → (s +ℤ suc_ℤ t) *ℤ pos q ≡ s *ℤ pos q +ℤ suc_ℤ t *ℤ pos q
one_more s t q e =
    ap (λ z. z *ℤ pos q) (+ℤ-suc_ℤ s t) ∙ suc_ℤ-*ℤ (s +ℤ t) (pos q) ∙ ap (λ z. z +ℤ pos q) e
    ∙ grouped (s *ℤ pos q) (t *ℤ pos q) q ∙ ap (λ z. s *ℤ pos q +ℤ z) (sym (suc_ℤ-*ℤ t (pos q)))
  where
    grouped : (a b : ℤ) (q : ℕ) → a +ℤ b +ℤ pos q ≡ a +ℤ (b +ℤ pos q)
    grouped a b q = omega (arith, ints)

one_less : (s t : ℤ) (q : ℕ) → (s +ℤ t) *ℤ pos q ≡ s *ℤ pos q +ℤ t *ℤ pos q → (s +ℤ pred_ℤ t) *ℤ pos q ≡ s *ℤ pos q +ℤ pred_ℤ t *ℤ pos q
one_less s t q e =
    ap (λ z. z *ℤ pos q) (+ℤ-pred_ℤ s t) ∙ pred_ℤ-*ℤ (s +ℤ t) (pos q) ∙ ap (λ z. z -ℤ pos q) e
    ∙ grouped (s *ℤ pos q) (t *ℤ pos q) q ∙ ap (λ z. s *ℤ pos q +ℤ z) (sym (pred_ℤ-*ℤ t (pos q)))
  where
    grouped : (a b : ℤ) (q : ℕ) → a +ℤ b -ℤ pos q ≡ a +ℤ (b -ℤ pos q)
    grouped a b q = omega (arith, ints)

sum_times : (s t : ℤ) (q : ℕ) → (s +ℤ t) *ℤ pos q ≡ s *ℤ pos q +ℤ t *ℤ pos q
sum_times s (pos zero) q = times_none s q
sum_times s (pos (suc n)) q = one_more s (pos n) q (sum_times s (pos n) q)
sum_times s (negsuc zero) q = one_less s (pos 0) q (times_none s q)
sum_times s (negsuc (suc n)) q = one_less s (negsuc n) q (sum_times s (negsuc n) q)

-- ---- numbers that are equal modulo a number

pub congruent_sym : (q : ℕ) (a b : ℤ) → IsCongruent q a b → IsCongruent q b a
congruent_sym q a b (t, e) = (neg_ℤ t, back a b (t *ℤ pos q) e ∙ ap (λ z. a +ℤ z) (sym (neg_times t q)))
  where
    back : (a b p : ℤ) → a ≡ b +ℤ p → b ≡ a +ℤ neg_ℤ p
    back a b p e = omega (arith, ints)

pub congruent_trans : (q : ℕ) (a b c : ℤ) → IsCongruent q a b → IsCongruent q b c → IsCongruent q a c
congruent_trans q a b c (t, e) (s, f) = (s +ℤ t, onward a b c (t *ℤ pos q) (s *ℤ pos q) e f ∙ ap (λ z. c +ℤ z) (sym (sum_times s t q)))
  where
    onward : (a b c p r : ℤ) → a ≡ b +ℤ p → b ≡ c +ℤ r → a ≡ c +ℤ (r +ℤ p)
    onward a b c p r e f = omega (arith, ints)

congruent_factor : (p q : ℕ) (a b : ℤ) → IsCongruent (p * q) a b → IsCongruent q a b
congruent_factor p q a b (t, e) = (t *ℤ pos p, e ∙ ap (λ z. b +ℤ z) (sym (times_times t p q)))

-- how many times the size of a kind goes into 2 ^ 128
times : IntKind → ℕ
times k = 340282366920938463463374607431768211456 / modulus k

is_multiple : (k : IntKind) → times k * modulus k ≡ 2 ^ 128
unfolding times
is_multiple I8 = refl
is_multiple I16 = refl
is_multiple I32 = refl
is_multiple I64 = refl
is_multiple U8 = refl
is_multiple U16 = refl
is_multiple U32 = refl
is_multiple U64 = refl

pub of_kind : (k : IntKind) (a b : ℤ) → IsCongruent (2 ^ 128) a b → IsCongruent (modulus k) a b
of_kind k a b h = congruent_factor (times k) (modulus k) a b (subst (λ (q : ℕ). IsCongruent q a b) (sym (is_multiple k)) h)

pub wrapped_alike : (k : IntKind) (a b : ℤ) → IsCongruent (modulus k) a b → wrapped k a ≡ wrapped k b
wrapped_alike k a b h = one_wrapped k (wrapped k a) b (wrapped_belongs k a) (congruent_trans (modulus k) (wrapped k a) a b (wrapped_congruent k a) h)

-- ---- 128 bits

no_multiple : (z : ℤ) (q : ℕ) → z ≡ z +ℤ pos 0 *ℤ pos q
no_multiple z q = omega (arith, ints)

bits_below : (n q : ℕ) → n < q → negsuc (q - suc n) ≡ pos n +ℤ negsuc 0 *ℤ pos q
bits_below n q h = omega (arith, ints)

bits_of_negative : (n q : ℕ) → suc n ≤ q → pos (q - suc n) ≡ negsuc n +ℤ pos 1 *ℤ pos q
bits_of_negative n q h = omega (arith, ints)

-- the number that bits mean
pub signed_congruent : (n : ℕ) → n < 2 ^ 128 → IsCongruent (2 ^ 128) (to_z w128 n) (pos n)
signed_congruent n h =
    elim (nat_lt n (2 ^ 127)) as (λ b. nat_lt n (2 ^ 127) ≡ b → IsCongruent (2 ^ 128) (to_z w128 n) (pos n)) [
      | true ↦ λ e. rw e (pos 0, no_multiple (pos n) (2 ^ 128))
      | false ↦ λ e. rw e (negsuc 0, bits_below n (2 ^ 128) h)
    ] refl

-- the bits of a number
pub unsigned_congruent : (z : ℤ) → FitsSigned w128 z → IsCongruent (2 ^ 128) (pos (of_z w128 z)) z
unsigned_congruent (pos n) h = (pos 0, no_multiple (pos n) (2 ^ 128))
unsigned_congruent (negsuc n) h = (pos 1, bits_of_negative n (2 ^ 128) (omega (arith, ints, h.sfits)))

pub int_wrap_congruent : (z : ℤ) → IsCongruent (2 ^ 128) (int_wrap w128 z) z
unfolding int_wrap
int_wrap_congruent z =
    let r = rem_below z (2 ^ 128) (omega arith) in
    let below : unsigned_abs (int_rem_euclid z (pos (2 ^ 128))) < 2 ^ 128 = subst (λ (n : ℤ). unsigned_abs n < 2 ^ 128) (sym r.1) r.2 in
    congruent_trans (2 ^ 128) (to_z w128 (unsigned_abs (int_rem_euclid z (pos (2 ^ 128))))) (int_rem_euclid z (pos (2 ^ 128))) z
    (subst (λ (n : ℤ). IsCongruent (2 ^ 128) (to_z w128 (unsigned_abs n)) n) (sym r.1) (signed_congruent r.0 r.2))
    (rem_congruent z (2 ^ 128) (omega arith))
