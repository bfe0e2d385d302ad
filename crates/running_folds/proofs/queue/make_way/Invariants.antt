use Rattle.std.proofs.Common.{◌≡◌, filter, length}
use Rattle.tuple_groups.specs.Extremes.{before}
use Rattle.running_folds.specs.Moving.{NoneBehind}
use Rattle.running_folds.proofs.Queues.{keeps}
use Rattle.running_folds.proofs.queue.make_way.Given as goal

abbrev pub invariant-backs : goal.invariant-backs
invariant-backs l = NoneBehind (before l.greatest) l.fn.queue.items → NoneBehind (before l.greatest) l.queue.items
    × (filter (keeps (before l.greatest) l.value) l.fn.queue.items ≡ filter (keeps (before l.greatest) l.value) l.queue.items)

abbrev pub decreases-backs : goal.decreases-backs
decreases-backs l = length l.queue.items
