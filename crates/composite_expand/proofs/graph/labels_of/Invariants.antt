use Rattle.std.proofs.Common.{◌≡◌, map, take}
use Rattle.spl_tree.specs.Trees.{placed}
use Rattle.composite_expand.proofs.graph.labels_of.Given as goal

abbrev pub invariant-loop-op : goal.invariant-loop-op
invariant-loop-op l = l.labels ≡ map (λ op. placed op.at op.label) (take l.op-index l.ops)
