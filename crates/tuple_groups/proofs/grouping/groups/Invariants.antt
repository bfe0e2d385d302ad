use Rattle.std.proofs.Common.{take}
use Rattle.tuple_groups.specs.Seen.{seen}
use Rattle.tuple_groups.specs.steps.Gathering.{HasGroups}
use Rattle.tuple_groups.proofs.grouping.groups.Given as goal

abbrev pub invariant-loop-tuple : goal.invariant-loop-tuple
invariant-loop-tuple l = HasGroups l.places l.gathered (seen (take l.tuple-index l.tuples))
