-- The numbers of the kinds within 64 bits, and so within 128.
use Rattle.std.specs.Prelude.{ℕ, pos, IsTrue}
use Rattle.std.specs.Int.{w64, FitsUnsigned}
use Rattle.std.proofs.Common.{arith}
use Rattle.std.proofs.lemmas.Bool.{ltb-true}
use Rattle.std.proofs.lemmas.Int.{ints}
use Rattle.spl_value.specs.declared.types.IntKind.{IntKind}
use Rattle.spl_value.specs.Values.{kind_holds, top}
use Rattle.spl_value.proofs.Widths.{widths}

-- one that isn't negative is an unsigned one of 64 bits
pub natural_fits : (k : IntKind) (n : ℕ) → IsTrue (kind_holds k (pos n)) → FitsUnsigned w64 (pos n)
natural_fits k n h = let w = widths k in let lt = ltb-true n (top k) h in (omega (arith, ints), omega (arith, ints))
