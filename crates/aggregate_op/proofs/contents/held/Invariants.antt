use Rattle.std.proofs.Common.{◌≡◌, take}
use Rattle.tuple_groups.specs.Seen.{seen}
use Rattle.aggregate_op.proofs.contents.held.Given as goal

abbrev pub invariant-loop-i : goal.invariant-loop-i
invariant-loop-i l = seen l.references.items ≡ take l.i l.content
