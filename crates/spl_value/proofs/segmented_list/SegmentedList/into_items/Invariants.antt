use Rattle.std.proofs.Common.{◌≡◌, ◌++◌}
use Rattle.spl_value.specs.Flattened.{flattened}
use Rattle.spl_value.proofs.segmented_list.SegmentedList.into_items.Given as goal

abbrev pub invariant-segments : goal.invariant-segments
invariant-segments g l = l.items ++ flattened l.segment-iterator.rest.items ≡ l.fn.self
