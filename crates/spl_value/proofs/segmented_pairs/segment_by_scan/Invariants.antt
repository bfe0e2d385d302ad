use Rattle.std.proofs.Common.{◌<◌, length, drop, suc}
use Rattle.std.specs.Prelude.{IsTrue}
use Rattle.spl_value.specs.Flattened.{flattened}
use Rattle.spl_value.specs.steps.Segments.{are_above}
use Rattle.spl_value.proofs.segmented_pairs.segment_by_scan.Given as goal

abbrev pub invariant-segments : goal.invariant-segments
invariant-segments l =
    (l.at < length l.fn.segments)
    × IsTrue (are_above l.fn.key (flattened (drop (suc l.at) l.fn.segments)))

abbrev pub decreases-segments : goal.decreases-segments
decreases-segments l = l.at
