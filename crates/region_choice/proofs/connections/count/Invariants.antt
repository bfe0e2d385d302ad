use Rattle.std.proofs.Common.{◌≡◌, ◌++◌, ℕ, List, length, take}
use Rattle.region_choice.specs.steps.Counting.{AreCounts}
use Rattle.region_choice.proofs.connections.count.Given as goal

abbrev pub invariant-loop-stream : goal.invariant-loop-stream
invariant-loop-stream l = record {
  many : length l.counts ≡ length l.fn.counts;
  counted : (seen : List ℕ) → AreCounts seen l.fn.counts → AreCounts (seen ++ take l.stream-index l.streams) l.counts;
}
