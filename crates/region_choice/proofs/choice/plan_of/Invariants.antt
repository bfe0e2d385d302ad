use Rattle.std.proofs.Common.{◌≡◌, ◌++◌, length, map}
use Rattle.std.specs.Vec.Iter.{into_iter_items, into_iter_len}
use Rattle.region_choice.specs.steps.Growing.{region_of}
use Rattle.region_choice.proofs.choice.plan_of.Given as goal

-- the regions of those so far, and the others
abbrev pub invariant-loop-region : goal.invariant-loop-region
invariant-loop-region l = (l.plan ++ map region_of (into_iter_items l.region-iterator) ≡ map region_of l.fn.regions)
    × (into_iter_len l.region-iterator ≡ length (into_iter_items l.region-iterator))
