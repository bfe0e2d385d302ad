use Rattle.std.proofs.Common.{◌≡◌, ◌++◌, ℕ, List, length, take}
use Rattle.std.specs.List.{concat}
use Rattle.region_choice.specs.steps.Counting.{AreCounts}
use Rattle.region_choice.proofs.connections.count_ports.Given as goal

abbrev pub invariant-loop-port : goal.invariant-loop-port
invariant-loop-port l = record {
  many : length l.counts ≡ length l.fn.counts;
  counted : (seen : List ℕ) → AreCounts seen l.fn.counts → AreCounts (seen ++ concat (take l.port-index l.ins)) l.counts;
}
