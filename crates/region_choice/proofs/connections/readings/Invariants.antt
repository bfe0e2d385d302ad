use Rattle.std.proofs.Common.{◌≡◌, length, map, take}
use Rattle.std.specs.List.{concat}
use Rattle.spl_tree.specs.declared.graph.Op.{Op}
use Rattle.region_choice.specs.steps.Counting.{AreCounts}
use Rattle.region_choice.proofs.connections.readings.Given as goal

abbrev pub invariant-loop-op : goal.invariant-loop-op
invariant-loop-op l = record {
  many : length l.counts ≡ length l.checked.graph.streams;
  counted : AreCounts (concat (map (λ (op : Op). concat op.ins) (take l.op-index l.checked.graph.ops))) l.counts;
}
