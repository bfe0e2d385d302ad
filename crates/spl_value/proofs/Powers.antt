-- Bounds on the numbers of at most 18 digits.
use Rattle.std.proofs.Common.{ℕ, ◌<◌, ◌≤◌, ◌^◌, arith, lit<}
use Rattle.std.proofs.Math.Nat.{pow-le-pow_right}

-- ten to the place of a digit
pub places : (i : ℕ) → i < 18 → 10 ^ i ≤ 10 ^ 17
places i h = let p : i ≤ 17 = omega arith in pow-le-pow_right (lit< tt) p

pub power_below : (n i k : ℕ) → n < 10 ^ i → i ≤ k → n < 10 ^ k
power_below n i k small le = let h = pow-le-pow_right {n = 10} (omega arith) le in omega (arith, h)
