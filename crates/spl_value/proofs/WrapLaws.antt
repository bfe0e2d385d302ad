-- Remainders and the numbers of a kind: the proofs of the laws on wrapping.
use Rattle.std.specs.Prelude.{◌≡◌, ℕ, zero, suc, ◌+◌, ◌-◌, ◌*◌, ◌/◌, ◌%◌, ◌<◌, ◌≤◌, ℤ, pos, negsuc, neg_ℤ, ◌+ℤ◌, ◌-ℤ◌, ◌*ℤ◌, true}
use Rattle.std.specs.Int.{int_rem_euclid}
use Rattle.std.proofs.Common.{refl, sym, ap, ◌∙◌, arith}
use Rattle.std.proofs.lemmas.Int.{ints, int_rem_euclid_is}
use Rattle.std.proofs.lemmas.Nat.{mod-mul-add, div-add-mod'}
use Rattle.std.proofs.Math.Nat.{mod-eq_of_lt}
use Rattle.spl_value.specs.declared.types.IntKind.{IntKind}
use Rattle.spl_value.specs.declared.types.IntKind.TheVariants.{I8, I16, I32, I64, U8, U16, U32, U64}
use Rattle.spl_value.specs.Values.{modulus, top, kind_holds}
use Rattle.spl_value.specs.Wrap.{IsCongruent, negatives, wrapped}
use Rattle.spl_value.specs.WrapLaws.{BelongsLaw, CongruentLaw, KeptLaw, OneWrappedLaw}
use Rattle.spl_value.proofs.Bools.{lt_true, true_lt}

-- a kind has numbers, and those that are not below 0 are among them
pub sizes : (k : IntKind) → (0 < top k) × (top k ≤ modulus k)
sizes I8 = (omega arith, omega arith)
sizes I16 = (omega arith, omega arith)
sizes I32 = (omega arith, omega arith)
sizes I64 = (omega arith, omega arith)
sizes U8 = (omega arith, omega arith)
sizes U16 = (omega arith, omega arith)
sizes U32 = (omega arith, omega arith)
sizes U64 = (omega arith, omega arith)

-- a number is of the kind where it is above the least one by less than `modulus k`
pub holds_above : (k : IntKind) (z : ℤ) (r : ℕ) → z +ℤ pos (negatives k) ≡ pos r → r < modulus k → kind_holds k z ≡ true
holds_above k (pos n) r e h = let s = sizes k in lt_true n (top k) (omega (arith, ints, s.1))
holds_above k (negsuc n) r e h = let s = sizes k in lt_true n (modulus k - top k) (omega (arith, ints, s.1))

-- a number of the kind is above the least one by less than `modulus k`
pub above_least : (k : IntKind) (z : ℤ) → kind_holds k z ≡ true → (r : ℕ) × (z +ℤ pos (negatives k) ≡ pos r) × (r < modulus k)
above_least k (pos n) h = let s = sizes k in let b = true_lt n (top k) h in (n + negatives k, refl, omega (arith, s.1))
above_least k (negsuc n) h =
    let s = sizes k in let b = true_lt n (modulus k - top k) h in
    (negatives k - (n + 1), omega (arith, ints), omega (arith, s.1))

neg-mul : (x q : ℕ) → neg_ℤ (pos x) *ℤ pos q ≡ neg_ℤ (pos (x * q))
neg-mul zero q = omega (arith, ints)
neg-mul (suc x) q = refl

pos_remainder : (a d r q : ℕ) → d * q + r ≡ a → pos r ≡ pos a +ℤ neg_ℤ (pos (d * q))
pos_remainder a d r q e = omega (arith, ints)

-- a remainder is equal to what it is the remainder of, modulo the divisor
pub rem_congruent : (z : ℤ) (q : ℕ) → 0 < q → IsCongruent q (int_rem_euclid z (pos q)) z
rem_congruent (pos a) q h = (neg_ℤ (pos (a / q)), let e = neg-mul (a / q) q in let d = div-add-mod' a q in pos_remainder a (a / q) (a % q) q d ∙ ap (λ p. pos a +ℤ p) (sym e))
rem_congruent (negsuc a) q h = (pos (a / q + 1), grind (arith, ints))

-- a remainder is below the divisor
pub rem_below : (z : ℤ) (q : ℕ) → 0 < q → (r : ℕ) × (int_rem_euclid z (pos q) ≡ pos r) × (r < q)
rem_below (pos a) q h = (a % q, refl, omega arith)
rem_below (negsuc a) q h = (q - 1 - a % q, refl, omega arith)

-- the number below the divisor that is equal to z modulo it is the remainder of z
pub rem_is : (z t : ℤ) (q r : ℕ) → r < q → pos r ≡ z +ℤ t *ℤ pos q → int_rem_euclid z (pos q) ≡ pos r
rem_is z (pos j) q r h e =
    int_rem_euclid_is z (pos q) q j r (omega arith) refl (sym e) ∙ ap pos (mod-eq_of_lt h)
rem_is z (negsuc j) q r h e =
    int_rem_euclid_is z (pos q) q 0 ((j + 1) * q + r) (omega arith) refl (shifted z j q r e) ∙ ap pos (mod-mul-add (j + 1) q r h)
  where
    shifted : (z : ℤ) (j q r : ℕ) → pos r ≡ z +ℤ negsuc j *ℤ pos q → z +ℤ pos (0 * q) ≡ pos ((j + 1) * q + r)
    shifted z j q r e = grind (arith, ints)

-- ---- the laws

pub wrapped_congruent : CongruentLaw
wrapped_congruent k n =
    let s = sizes k in
    let c = rem_congruent (n +ℤ pos (negatives k)) (modulus k) (omega arith) in
    (c.0, back n (c.0 *ℤ pos (modulus k)) (int_rem_euclid (n +ℤ pos (negatives k)) (pos (modulus k))) (negatives k) c.1)
  where
    back : (n p r : ℤ) (low : ℕ) → r ≡ n +ℤ pos low +ℤ p → r -ℤ pos low ≡ n +ℤ p
    back n p r low e = omega (arith, ints)

pub one_wrapped : OneWrappedLaw
one_wrapped k m n h (t, e) =
    let a = above_least k m h in
    sym (ap (λ r. r -ℤ pos (negatives k))
    (rem_is (n +ℤ pos (negatives k)) t (modulus k) a.0 a.2 (onward m n (t *ℤ pos (modulus k)) (negatives k) a.0 a.1 e))
    ∙ back m (negatives k) a.0 a.1)
  where
    onward : (m n p : ℤ) (low r : ℕ) → m +ℤ pos low ≡ pos r → m ≡ n +ℤ p → pos r ≡ n +ℤ pos low +ℤ p
    onward m n p low r a e = omega (arith, ints)

    back : (m : ℤ) (low r : ℕ) → m +ℤ pos low ≡ pos r → pos r -ℤ pos low ≡ m
    back m low r a = omega (arith, ints)

pub wrapped_kept : KeptLaw
wrapped_kept k n h = sym (one_wrapped k n n h (pos 0, none n (modulus k)))
  where
    none : (n : ℤ) (q : ℕ) → n ≡ n +ℤ pos 0 *ℤ pos q
    none n q = omega (arith, ints)

pub wrapped_belongs : BelongsLaw
wrapped_belongs k n =
    let s = sizes k in
    let b = rem_below (n +ℤ pos (negatives k)) (modulus k) (omega arith) in
    holds_above k (wrapped k n) b.0 (back (int_rem_euclid (n +ℤ pos (negatives k)) (pos (modulus k))) (negatives k) b.0 b.1) b.2
  where
    back : (z : ℤ) (low r : ℕ) → z ≡ pos r → z -ℤ pos low +ℤ pos low ≡ pos r
    back z low r e = omega (arith, ints)
