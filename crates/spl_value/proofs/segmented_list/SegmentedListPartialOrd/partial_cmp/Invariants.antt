use Rattle.std.proofs.Common.{◌≡◌, length}
use Rattle.std.specs.Cmp.Lexicographic.{slice_partial_cmp}
use Rattle.spl_value.proofs.segmented_list.SegmentedListPartialOrd.partial_cmp.Given as goal

abbrev pub invariant-items : goal.invariant-items
invariant-items g l =
    slice_partial_cmp g.T.PartialOrd.partial_cmp l.left l.right
    ≡ slice_partial_cmp g.T.PartialOrd.partial_cmp l.fn.self l.fn.other

abbrev pub decreases-items : goal.decreases-items
decreases-items g l = length l.left
