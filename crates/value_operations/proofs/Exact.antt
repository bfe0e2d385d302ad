-- The results of operators of integers, from those in 128 bits.
use Rattle.std.specs.Prelude.{◌≡◌, ℕ, zero, suc, ◌*◌, ◌/◌, ◌%◌, ◌≤◌, ◌^◌, ℤ, pos, negsuc, unsigned_abs, ◌+ℤ◌, ◌-ℤ◌, ◌*ℤ◌, int_div, int_rem, IsTrue, FitsSigned}
use Rattle.std.specs.Int.{w128, int_wrap}
use Rattle.std.specs.Int.Bits.{bit_and, bit_or, bit_xor}
use Rattle.std.proofs.Common.{refl, sym, ap, subst, ◌∙◌, to_z, of_z, arith}
use Rattle.std.proofs.Math.Nat.{div-le_self, mod-le}
use Rattle.std.proofs.lemmas.Int.{ints, to_z-of_z, wrapping_mul_is}
use Rattle.spl_value.specs.declared.types.IntKind.{IntKind}
use Rattle.spl_value.specs.declared.value.Value.TheVariants as V
use Rattle.spl_value.specs.Calls.{Gives}
use Rattle.spl_value.specs.Values.{kind_holds}
use Rattle.spl_value.specs.Wrap.{wrapped}
use Rattle.spl_value.proofs.WrapLaws.{wrapped_belongs}
use Rattle.spl_tree.specs.declared.code.IntegerOperator.{IntegerOperator}
use Rattle.spl_tree.specs.declared.code.IntegerOperator.TheVariants as I
use Rattle.language_model.specs.Operators.{integer, divided, bits_of, on_integers}
use Rattle.value_operations.proofs.Bits.{and_wrapped, or_wrapped, xor_wrapped}
use Rattle.value_operations.proofs.Wrapping.{of_kind, wrapped_alike, int_wrap_congruent}
use Rattle.spl_value.proofs.Widths.{within, turned, fits_128, kept_in_128}

quotient_within : (m n : ℤ) → unsigned_abs (int_div m n) ≤ unsigned_abs m
quotient_within (pos a) (pos b) = div-le_self a b
quotient_within (pos a) (negsuc b) = subst (λ (x : ℕ). x ≤ a) (sym (turned (pos (a / suc b)))) (div-le_self a (suc b))
quotient_within (negsuc a) (pos b) = subst (λ (x : ℕ). x ≤ suc a) (sym (turned (pos (suc a / b)))) (div-le_self (suc a) b)
quotient_within (negsuc a) (negsuc b) = div-le_self (suc a) (suc b)

remainder_within : (m n : ℤ) → unsigned_abs (int_rem m n) ≤ unsigned_abs m
remainder_within (pos a) n = mod-le a (unsigned_abs n)
remainder_within (negsuc a) n = subst (λ (x : ℕ). x ≤ suc a) (sym (turned (pos (suc a % unsigned_abs n)))) (mod-le (suc a) (unsigned_abs n))

sum_fits : (m n : ℤ) → unsigned_abs m ≤ 2 ^ 64 → unsigned_abs n ≤ 2 ^ 64 → FitsSigned w128 (m +ℤ n)
sum_fits m n f g = omega (arith, ints)

difference_fits : (m n : ℤ) → unsigned_abs m ≤ 2 ^ 64 → unsigned_abs n ≤ 2 ^ 64 → FitsSigned w128 (m -ℤ n)
difference_fits m n f g = omega (arith, ints)

divided_is : (k : IntKind) (f : ℤ → ℤ → ℤ) (m n : ℤ) → (n ≡ pos 0 → ⊥) → divided k f m n ≡ integer k (f m n)
divided_is k f m (pos zero) some = absurd (some refl)
divided_is k f m (pos (suc n)) some = refl
divided_is k f m (negsuc n) some = refl

module _ (k : IntKind) (m n : ℤ) (f : IsTrue (kind_holds k m)) (g : IsTrue (kind_holds k n)) where
  pub left_within : unsigned_abs (to_z w128 (of_z w128 m)) ≤ 2 ^ 64
  left_within = subst (λ (z : ℤ). unsigned_abs z ≤ 2 ^ 64) (sym (kept_in_128 k m f)) (within k m f)

  left_kept : to_z w128 (of_z w128 m) ≡ m
  left_kept = kept_in_128 k m f

  right_kept : to_z w128 (of_z w128 n) ≡ n
  right_kept = kept_in_128 k n g

  left_fits : FitsSigned w128 m
  left_fits = fits_128 m (within k m f)

  right_fits : FitsSigned w128 n
  right_fits = fits_128 n (within k n g)

  kept_operands : (h : ℤ → ℤ → ℤ) → h (to_z w128 (of_z w128 m)) (to_z w128 (of_z w128 n)) ≡ h m n
  kept_operands h = λ i. h (left_kept i) (right_kept i)

  -- the exact result z, wrapped and passed on in 128 bits
  gives : (z x r : ℤ) → r ≡ wrapped k x → wrapped k x ≡ wrapped k z → integer k z ≡ Gives (V.Int (to_z w128 (of_z w128 r)))
  gives z x r result same =
      ap (λ y. Gives (V.Int y))
      (sym (ap (λ y. to_z w128 (of_z w128 y)) (result ∙ same) ∙ kept_in_128 k (wrapped k z) (wrapped_belongs k z)))

  module _ (op : IntegerOperator) (x r : ℤ) (result : r ≡ wrapped k x) where
    -- an operator, by its exact result
    by : (o : IntegerOperator) (z : ℤ) → op ≡ o → on_integers o k m n ≡ integer k z → wrapped k x ≡ wrapped k z
        → on_integers op k m n ≡ Gives (V.Int (to_z w128 (of_z w128 r)))
    by o z e is same = ap (λ p. on_integers p k m n) e ∙ is ∙ gives z x r result same

    pub add_gives : op ≡ I.Add → x ≡ to_z w128 (of_z w128 (to_z w128 (of_z w128 m) +ℤ to_z w128 (of_z w128 n))) → on_integers op k m n ≡ Gives (V.Int (to_z w128 (of_z w128 r)))
    add_gives e is =
        by I.Add (m +ℤ n) e refl
        (ap (wrapped k) (is ∙ ap (λ z. to_z w128 (of_z w128 z)) (kept_operands (λ a b. a +ℤ b)) ∙ to_z-of_z w128 (m +ℤ n) (sum_fits m n (within k m f) (within k n g))))

    pub subtract_gives : op ≡ I.Subtract → x ≡ to_z w128 (of_z w128 (to_z w128 (of_z w128 m) -ℤ to_z w128 (of_z w128 n))) → on_integers op k m n ≡ Gives (V.Int (to_z w128 (of_z w128 r)))
    subtract_gives e is =
        by I.Subtract (m -ℤ n) e refl
        (ap (wrapped k) (is ∙ ap (λ z. to_z w128 (of_z w128 z)) (kept_operands (λ a b. a -ℤ b)) ∙ to_z-of_z w128 (m -ℤ n) (difference_fits m n (within k m f) (within k n g))))

    pub multiply_gives : op ≡ I.Multiply → x ≡ to_z w128 ((of_z w128 m * of_z w128 n) % 2 ^ 128) → on_integers op k m n ≡ Gives (V.Int (to_z w128 (of_z w128 r)))
    multiply_gives e is =
        by I.Multiply (m *ℤ n) e refl
        (ap (wrapped k) (is ∙ wrapping_mul_is w128 m n left_fits right_fits)
        ∙ wrapped_alike k (int_wrap w128 (m *ℤ n)) (m *ℤ n) (of_kind k (int_wrap w128 (m *ℤ n)) (m *ℤ n) (int_wrap_congruent (m *ℤ n))))

    -- a quotient or a remainder is no further from 0 than the dividend
    module _ (h : ℤ → ℤ → ℤ) (near : unsigned_abs (h m n) ≤ unsigned_abs m) (z : ℤ) (some : to_z w128 (of_z w128 n) ≡ pos 0 → ⊥)
        (exact : z ≡ h (to_z w128 (of_z w128 m)) (to_z w128 (of_z w128 n))) (is : x ≡ to_z w128 (of_z w128 z)) where
      division : (o : IntegerOperator) → op ≡ o → on_integers o k m n ≡ divided k h m n → on_integers op k m n ≡ Gives (V.Int (to_z w128 (of_z w128 r)))
      division o e definition =
          let small = within k m f in
          by o (h m n) e (definition ∙ divided_is k h m n (λ e. some (right_kept ∙ e)))
          (ap (wrapped k) (is ∙ ap (λ y. to_z w128 (of_z w128 y)) (exact ∙ kept_operands h) ∙ to_z-of_z w128 (h m n) (fits_128 (h m n) (omega arith))))

    pub divide_gives : (z : ℤ) → op ≡ I.Divide → (to_z w128 (of_z w128 n) ≡ pos 0 → ⊥) → z ≡ int_div (to_z w128 (of_z w128 m)) (to_z w128 (of_z w128 n))
        → x ≡ to_z w128 (of_z w128 z) → on_integers op k m n ≡ Gives (V.Int (to_z w128 (of_z w128 r)))
    divide_gives z e some exact is = division int_div (quotient_within m n) z some exact is I.Divide e refl

    pub remainder_gives : (z : ℤ) → op ≡ I.Remainder → (to_z w128 (of_z w128 n) ≡ pos 0 → ⊥) → z ≡ int_rem (to_z w128 (of_z w128 m)) (to_z w128 (of_z w128 n))
        → x ≡ to_z w128 (of_z w128 z) → on_integers op k m n ≡ Gives (V.Int (to_z w128 (of_z w128 r)))
    remainder_gives z e some exact is = division int_rem (remainder_within m n) z some exact is I.Remainder e refl

    pub and_gives : op ≡ I.BitAnd → x ≡ to_z w128 (bit_and (of_z w128 m) (of_z w128 n)) → on_integers op k m n ≡ Gives (V.Int (to_z w128 (of_z w128 r)))
    and_gives e is = by I.BitAnd (pos (bit_and (bits_of k m) (bits_of k n))) e refl (ap (wrapped k) is ∙ and_wrapped k m n left_fits right_fits)

    pub xor_gives : op ≡ I.BitXor → x ≡ to_z w128 (bit_xor (of_z w128 m) (of_z w128 n)) → on_integers op k m n ≡ Gives (V.Int (to_z w128 (of_z w128 r)))
    xor_gives e is = by I.BitXor (pos (bit_xor (bits_of k m) (bits_of k n))) e refl (ap (wrapped k) is ∙ xor_wrapped k m n left_fits right_fits)

    pub or_gives : op ≡ I.BitOr → x ≡ to_z w128 (bit_or (of_z w128 m) (of_z w128 n)) → on_integers op k m n ≡ Gives (V.Int (to_z w128 (of_z w128 r)))
    or_gives e is = by I.BitOr (pos (bit_or (bits_of k m) (bits_of k n))) e refl (ap (wrapped k) is ∙ or_wrapped k m n left_fits right_fits)
