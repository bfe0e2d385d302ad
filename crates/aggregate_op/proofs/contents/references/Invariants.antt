use Rattle.std.proofs.Common.{◌≡◌, take}
use Rattle.tuple_groups.specs.Seen.{seen}
use Rattle.aggregate_op.proofs.contents.references.Given as goal

abbrev pub invariant-loop-tuple : goal.invariant-loop-tuple
invariant-loop-tuple l = seen l.references.items ≡ take l.tuple-index l.tuples
