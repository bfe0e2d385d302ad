use Rattle.std.specs.Prelude.{◌≡◌, length}
use Rattle.std.specs.Cmp.Lexicographic.{slice_cmp}
use Rattle.std.specs.Ordering.{nat_cmp}
use Rattle.spl_value.proofs.compare.order_bytes.Given as goal

abbrev pub invariant-bytes : goal.invariant-bytes
invariant-bytes l = slice_cmp nat_cmp l.left l.right ≡ slice_cmp nat_cmp l.a l.b

abbrev pub decreases-bytes : goal.decreases-bytes
decreases-bytes l = length l.left
