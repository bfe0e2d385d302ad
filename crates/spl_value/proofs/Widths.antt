-- The numbers of the kinds within 64 bits, and so within 128.
use Rattle.std.proofs.Common.{◌-◌, ◌^◌, ◌≤◌, lit≤, IsTrue, ℤ, pos, negsuc, arith, ◌≡◌, refl, zero, suc, FitsSigned, to_z, of_z}
use Rattle.spl_value.specs.declared.types.IntKind.{IntKind}
use Rattle.spl_value.specs.declared.types.IntKind.TheVariants.{I8, I16, I32, I64, U8, U16, U32, U64}
use Rattle.spl_value.specs.Values.{modulus, top, kind_holds}
use Rattle.std.specs.Prelude.{unsigned_abs, neg_ℤ}
use Rattle.std.proofs.lemmas.Bool.{ltb-true}
use Rattle.std.specs.Int.{w128}
use Rattle.std.proofs.lemmas.Int.{fits_signed_from_abs, to_z-of_z}

pub widths : (k : IntKind) → (top k ≤ 2 ^ 64) × (modulus k - top k ≤ 2 ^ 64)
widths I8 = (lit≤ tt, lit≤ tt)
widths I16 = (lit≤ tt, lit≤ tt)
widths I32 = (lit≤ tt, lit≤ tt)
widths I64 = (lit≤ tt, lit≤ tt)
widths U8 = (lit≤ tt, lit≤ tt)
widths U16 = (lit≤ tt, lit≤ tt)
widths U32 = (lit≤ tt, lit≤ tt)
widths U64 = (lit≤ tt, lit≤ tt)

pub within : (k : IntKind) (n : ℤ) → IsTrue (kind_holds k n) → unsigned_abs n ≤ 2 ^ 64
within k (pos n) h = let w = widths k in let lt = ltb-true n (top k) h in omega arith
within k (negsuc n) h = let w = widths k in let lt = ltb-true n (modulus k - top k) h in omega arith

pub turned : (n : ℤ) → unsigned_abs (neg_ℤ n) ≡ unsigned_abs n
turned (pos zero) = refl
turned (pos (suc n)) = refl
turned (negsuc n) = refl

pub fits_128 : (n : ℤ) → unsigned_abs n ≤ 2 ^ 64 → FitsSigned w128 n
fits_128 n h = fits_signed_from_abs w128 n (omega arith)

pub kept_in_128 : (k : IntKind) (n : ℤ) → IsTrue (kind_holds k n) → to_z w128 (of_z w128 n) ≡ n
kept_in_128 k n h = to_z-of_z w128 n (fits_128 n (within k n h))
