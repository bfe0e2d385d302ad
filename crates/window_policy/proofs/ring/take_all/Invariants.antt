use Rattle.std.proofs.Common.{◌≡◌, ◌++◌, length}
use Rattle.window_policy.proofs.ring.take_all.Given as goal

abbrev pub invariant-tuples : goal.invariant-tuples
invariant-tuples l = l.taken ++ l.ring.items ≡ l.fn.ring.items

abbrev pub decreases-tuples : goal.decreases-tuples
decreases-tuples l = length l.ring.items
