use Rattle.std.proofs.Common.{◌≡◌, length}
use Rattle.std.specs.Cmp.Lexicographic.{slice_cmp}
use Rattle.spl_value.proofs.segmented_list.SegmentedListOrd.cmp.Given as goal

abbrev pub invariant-items : goal.invariant-items
invariant-items g l = slice_cmp g.T.Ord.cmp l.left l.right ≡ slice_cmp g.T.Ord.cmp l.fn.self l.fn.other

abbrev pub decreases-items : goal.decreases-items
decreases-items g l = length l.left
