-- Sums of one number more, and of one less.
use Rattle.std.proofs.Common.{◌≡◌, ◌+◌, ◌+ℤ◌, ◌*ℤ◌, ℕ, ℤ, pos, List, [], ◌∷◌, ◌++◌, length, refl, sym, ap, subst, ◌∙◌, length-append, arith, to_z, of_z}
use Rattle.std.specs.Prelude.{◌-ℤ◌, unsigned_abs, IsTrue, FitsSigned, ◌≤◌, ◌^◌}
use Rattle.std.specs.Int.{w128}
use Rattle.std.proofs.lemmas.Int.{fits_signed_from_abs, ints, to_z-of_z}
use Rattle.spl_value.specs.declared.types.IntKind.{IntKind}
use Rattle.spl_value.specs.declared.value.Value.{Value}
use Rattle.spl_value.specs.declared.value.Value.TheViews.{out-Value}
use Rattle.spl_value.specs.Values.{kind_holds, modulus}
use Rattle.spl_value.specs.Wrap.{wrapped}
use Rattle.spl_value.proofs.Widths.{within, kept_in_128}
use Rattle.spl_value.proofs.WrapLaws.{one_wrapped, wrapped_belongs, wrapped_congruent}
use Rattle.stream_model.specs.Aggregates.{total}
use Rattle.stream_model.specs.Windows.{integer_of}
use Rattle.tuple_groups.proofs.WrappedSums.{times}

-- ---- sums of values

moved : (a n t : ℤ) → a +ℤ (n +ℤ t) ≡ n +ℤ (a +ℤ t)
moved a n t = omega (arith, ints)

pub total_push : (vs : List Value) (v : Value) → total (vs ++ v ∷ []) ≡ integer_of (out-Value v) +ℤ total vs
total_push [] v = refl
total_push (x ∷ xs) v = ap (λ t. integer_of (out-Value x) +ℤ t) (total_push xs v) ∙ moved (integer_of (out-Value x)) (integer_of (out-Value v)) (total xs)

-- ---- a number is taken out

less_of : (x y z : ℤ) → x ≡ z +ℤ y → z ≡ x -ℤ y
less_of x y z e = omega (arith, ints)

back_again : (s r : ℤ) → (s -ℤ r) +ℤ r ≡ s
back_again s r = omega (arith, ints)

differences : (s r : ℤ) (q : ℕ) → (s -ℤ r) *ℤ pos q ≡ (s *ℤ pos q) -ℤ (r *ℤ pos q)
differences s r q = less_of (s *ℤ pos q) (r *ℤ pos q) ((s -ℤ r) *ℤ pos q) (ap (λ z. z *ℤ pos q) (sym (back_again s r)) ∙ times (s -ℤ r) r q)

linear : (d x y n t a b c : ℤ) → d ≡ (x -ℤ y) +ℤ a → x ≡ (n +ℤ t) +ℤ b → y ≡ n +ℤ c → d ≡ t +ℤ ((a +ℤ b) -ℤ c)
linear d x y n t a b c e f g = omega (arith, ints)

-- a sum without a number wraps as the sum of the others does
pub wrapped_difference : (k : IntKind) (n t : ℤ) → wrapped k (wrapped k (n +ℤ t) -ℤ wrapped k n) ≡ wrapped k t
wrapped_difference k n t =
    let outer = wrapped_congruent k (wrapped k (n +ℤ t) -ℤ wrapped k n) in
    let whole = wrapped_congruent k (n +ℤ t) in
    let one = wrapped_congruent k n in
    let q = modulus k in
    one_wrapped k (wrapped k (wrapped k (n +ℤ t) -ℤ wrapped k n)) t (wrapped_belongs k (wrapped k (n +ℤ t) -ℤ wrapped k n)) (
      (outer.0 +ℤ whole.0) -ℤ one.0,
      linear (wrapped k (wrapped k (n +ℤ t) -ℤ wrapped k n)) (wrapped k (n +ℤ t)) (wrapped k n) n t (outer.0 *ℤ pos q) (whole.0 *ℤ pos q) (one.0 *ℤ pos q)
          outer.1 whole.1 one.1
          ∙ ap (λ z. t +ℤ z) (ap (λ z. z -ℤ (one.0 *ℤ pos q)) (sym (times outer.0 whole.0 q)) ∙ sym (differences (outer.0 +ℤ whole.0) one.0 q)),
    )

-- ---- as they are kept

difference_below : (a b : ℤ) → unsigned_abs a ≤ 2 ^ 64 → unsigned_abs b ≤ 2 ^ 64 → unsigned_abs (a -ℤ b) ≤ 2 ^ 65
difference_below a b p q = omega (arith, ints)

fits_128 : (n : ℤ) → unsigned_abs n ≤ 2 ^ 65 → FitsSigned w128 n
fits_128 n h = fits_signed_from_abs w128 n (omega arith)

difference_kept : (k : IntKind) (a b : ℤ) → IsTrue (kind_holds k a) → IsTrue (kind_holds k b) → to_z w128 (of_z w128 (a -ℤ b)) ≡ a -ℤ b
difference_kept k a b p q = let small = difference_below a b (within k a p) (within k b q) in to_z-of_z w128 (a -ℤ b) (fits_128 (a -ℤ b) small)

-- a number is taken out
pub taken_out : (k : IntKind) (n first sum t result : ℤ) → FitsSigned w128 n → first ≡ wrapped k (to_z w128 (of_z w128 n)) → sum ≡ wrapped k (n +ℤ t)
    → IsTrue (kind_holds k first) → IsTrue (kind_holds k result)
    → result ≡ wrapped k (to_z w128 (of_z w128 (to_z w128 (of_z w128 sum) -ℤ to_z w128 (of_z w128 first))))
    → to_z w128 (of_z w128 result) ≡ wrapped k t
taken_out k n first sum t result fits is was p r e =
    let holds = subst (λ z. IsTrue (kind_holds k z)) (sym was) (wrapped_belongs k (n +ℤ t)) in
    let operands = (λ i. to_z w128 (of_z w128 (kept_in_128 k sum holds i -ℤ kept_in_128 k first p i))) ∙ difference_kept k sum first holds p in
    kept_in_128 k result r ∙ e ∙ ap (wrapped k) (operands ∙ (λ i. was i -ℤ (is ∙ ap (wrapped k) (to_z-of_z w128 n fits)) i)) ∙ wrapped_difference k n t

-- one value more is counted
pub counted : (vs : List Value) (v : Value) → pos (1 + length vs) ≡ pos (length (vs ++ v ∷ []))
counted vs v = let more : length (vs ++ v ∷ []) ≡ length vs + 1 = length-append vs (v ∷ []) in let same : 1 + length vs ≡ length (vs ++ v ∷ []) = omega (arith, more) in ap pos same
