use Rattle.std.proofs.Common.{◌≡◌, map, take}
use Rattle.spl_tree.specs.Trees.{placed}
use Rattle.cycle_rules.specs.steps.Named.{name_seen}
use Rattle.cycle_rules.proofs.recursion.composite_caller.Given as goal

abbrev pub invariant-loop-invocation : goal.invariant-loop-invocation
invariant-loop-invocation l = map name_seen l.called.items ≡ map (λ i. placed i.at i.operator.what) (take l.invocation-index l.composite.graph)
