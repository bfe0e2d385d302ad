use Rattle.std.proofs.Common.{◌≡◌, length}
use Rattle.std.specs.Cmp.Lexicographic.{pointwise}
use Rattle.spl_value.proofs.segmented_list.SegmentedListPartialEq.eq.Given as goal

abbrev pub invariant-items : goal.invariant-items
invariant-items g l = pointwise g.T.PartialEq.eq l.left l.right ≡ pointwise g.T.PartialEq.eq l.fn.self l.fn.other

abbrev pub decreases-items : goal.decreases-items
decreases-items g l = length l.left
