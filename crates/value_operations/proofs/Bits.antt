-- The bits of numbers of a kind are the lowest of their 128 bits.
use Rattle.std.specs.Prelude.{◌≡◌, ℕ, ◌%◌, ◌<◌, ◌^◌, ℤ, pos, negsuc, nat_abs, FitsSigned}
use Rattle.std.specs.Int.{w128}
use Rattle.std.specs.Int.Bits.{bit_and, bit_or, bit_xor, and_mod, or_mod, xor_mod, and_lt, or_lt, xor_lt}
use Rattle.std.proofs.Common.{refl, sym, ap, subst, ◌∙◌, to_z, of_z, arith}
use Rattle.std.proofs.lemmas.Int.{ints}
use Rattle.spl_value.specs.declared.types.IntKind.{IntKind}
use Rattle.spl_value.specs.declared.types.IntKind.TheVariants.{I8, I16, I32, I64, U8, U16, U32, U64}
use Rattle.spl_value.specs.Values.{modulus}
use Rattle.spl_value.specs.Wrap.{IsCongruent, wrapped}
use Rattle.spl_value.proofs.WrapLaws.{rem_congruent, rem_is}
use Rattle.language_model.specs.Operators.{bits_of}
use Rattle.value_operations.proofs.Wrapping.{congruent_sym, congruent_trans, of_kind, wrapped_alike, signed_congruent, unsigned_congruent}

width : IntKind → ℕ
width I8 = 8
width I16 = 16
width I32 = 32
width I64 = 64
width U8 = 8
width U16 = 16
width U32 = 32
width U64 = 64

is_power : (k : IntKind) → 2 ^ width k ≡ modulus k
unfolding width
is_power I8 = refl
is_power I16 = refl
is_power I32 = refl
is_power I64 = refl
is_power U8 = refl
is_power U16 = refl
is_power U32 = refl
is_power U64 = refl

some : (k : IntKind) → 0 < modulus k
some I8 = omega arith
some I16 = omega arith
some I32 = omega arith
some I64 = omega arith
some U8 = omega arith
some U16 = omega arith
some U32 = omega arith
some U64 = omega arith

unsigned_below : (z : ℤ) → FitsSigned w128 z → of_z w128 z < 2 ^ 128
unsigned_below (pos n) h = omega (arith, ints, h.sfits)
unsigned_below (negsuc n) h = omega (arith, ints, h.sfits)

-- the bits modulo the size of the kind are the lowest of those in 128 bits
bits_are : (k : IntKind) (z : ℤ) → FitsSigned w128 z → bits_of k z ≡ of_z w128 z % modulus k
bits_are k z h =
    let positive = some k in
    let u = of_z w128 z in
    let c = congruent_trans (modulus k) (pos (u % modulus k)) (pos u) z (rem_congruent (pos u) (modulus k) positive) (of_kind k (pos u) z (unsigned_congruent z h)) in
    ap nat_abs (rem_is z c.0 (modulus k) (u % modulus k) (omega arith) c.1)

-- an operation on bits works on the lowest ones apart
module _ (op : ℕ → ℕ → ℕ) (low : (a b j : ℕ) → op a b % 2 ^ j ≡ op (a % 2 ^ j) (b % 2 ^ j)) (bound : (j a b : ℕ) → a < 2 ^ j → b < 2 ^ j → op a b < 2 ^ j) where
  low_of_kind : (k : IntKind) (a b : ℕ) → op a b % modulus k ≡ op (a % modulus k) (b % modulus k)
  low_of_kind k a b = subst (λ (q : ℕ). op a b % q ≡ op (a % q) (b % q)) (is_power k) (low a b (width k))

  bits_wrapped : (k : IntKind) (m n : ℤ) → FitsSigned w128 m → FitsSigned w128 n
      → wrapped k (to_z w128 (op (of_z w128 m) (of_z w128 n))) ≡ wrapped k (pos (op (bits_of k m) (bits_of k n)))
  bits_wrapped k m n f g =
      let u = of_z w128 m in
      let v = of_z w128 n in
      let q = modulus k in
      let all = bound 128 u v (unsigned_below m f) (unsigned_below n g) in
      let remainder : IsCongruent q (pos (op u v % q)) (pos (op u v)) = rem_congruent (pos (op u v)) q (some k) in
      wrapped_alike k (to_z w128 (op u v)) (pos (op u v % q))
      (congruent_trans q (to_z w128 (op u v)) (pos (op u v)) (pos (op u v % q))
      (of_kind k (to_z w128 (op u v)) (pos (op u v)) (signed_congruent (op u v) all))
      (congruent_sym q (pos (op u v % q)) (pos (op u v)) remainder))
      ∙ ap (λ n. wrapped k (pos n)) (low_of_kind k u v ∙ (λ i. op (sym (bits_are k m f) i) (sym (bits_are k n g) i)))

pub and_wrapped : (k : IntKind) (m n : ℤ) → FitsSigned w128 m → FitsSigned w128 n
    → wrapped k (to_z w128 (bit_and (of_z w128 m) (of_z w128 n))) ≡ wrapped k (pos (bit_and (bits_of k m) (bits_of k n)))
and_wrapped = bits_wrapped bit_and and_mod and_lt

pub or_wrapped : (k : IntKind) (m n : ℤ) → FitsSigned w128 m → FitsSigned w128 n
    → wrapped k (to_z w128 (bit_or (of_z w128 m) (of_z w128 n))) ≡ wrapped k (pos (bit_or (bits_of k m) (bits_of k n)))
or_wrapped = bits_wrapped bit_or or_mod or_lt

pub xor_wrapped : (k : IntKind) (m n : ℤ) → FitsSigned w128 m → FitsSigned w128 n
    → wrapped k (to_z w128 (bit_xor (of_z w128 m) (of_z w128 n))) ≡ wrapped k (pos (bit_xor (bits_of k m) (bits_of k n)))
xor_wrapped = bits_wrapped bit_xor xor_mod xor_lt
