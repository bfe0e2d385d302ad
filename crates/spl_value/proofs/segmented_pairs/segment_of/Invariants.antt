use Rattle.std.proofs.Common.{◌-◌, ◌<◌, ◌≤◌, length, drop, take}
use Rattle.std.specs.Prelude.{IsTrue}
use Rattle.spl_value.specs.Flattened.{flattened}
use Rattle.spl_value.specs.steps.Segments.{are_below, are_above}
use Rattle.spl_value.proofs.segmented_pairs.segment_of.Given as goal

abbrev pub invariant-halves : goal.invariant-halves
invariant-halves l =
    (l.low < l.high) × (l.high ≤ length l.fn.segments)
    × IsTrue (are_below l.fn.key (flattened (take l.low l.fn.segments)))
    × IsTrue (are_above l.fn.key (flattened (drop l.high l.fn.segments)))

abbrev pub decreases-halves : goal.decreases-halves
decreases-halves l = l.high - l.low
