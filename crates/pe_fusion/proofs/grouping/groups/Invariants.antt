use Rattle.std.proofs.Common.{◌≡◌}
use Rattle.pe_fusion.specs.Shapes.{groups_of}
use Rattle.pe_fusion.proofs.grouping.groups.Given as goal

abbrev pub invariant-loop-element : goal.invariant-loop-element
invariant-loop-element l = l.groups ≡ groups_of l.element l.workers
