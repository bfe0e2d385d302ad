use Rattle.std.proofs.Common.{◌≡◌, take}
use Rattle.join_op.proofs.pair.copy_into.Given as goal

abbrev pub invariant-loop-value : goal.invariant-loop-value
invariant-loop-value l = l.room ≡ take l.value-index l.value-items
