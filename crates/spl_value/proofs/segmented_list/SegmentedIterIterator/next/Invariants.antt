use Rattle.std.proofs.Common.{◌≡◌, ◌++◌, length}
use Rattle.spl_value.specs.Flattened.{flattened}
use Rattle.spl_value.proofs.segmented_list.SegmentedIterIterator.next.Given as goal

abbrev pub invariant-segments : goal.invariant-segments
invariant-segments g l = l.self-inside.segment.now ++ flattened l.self-inside.later.now ≡ l.fn.self

abbrev pub decreases-segments : goal.decreases-segments
decreases-segments g l = length l.self-inside.later.now
