use Rattle.std.proofs.Common.{◌≡◌, ◌+◌, ◌++◌, length}
use Rattle.std.specs.Vec.Iter.{into_iter_items, into_iter_len}
use Rattle.list_engine.specs.steps.Recording.{lists_from}
use Rattle.list_engine.proofs.arrivals.arrival_lists.Given as goal

-- the lists so far, and those of the operators that are left
abbrev pub invariant-loop-own : goal.invariant-loop-own
invariant-loop-own l = (lists_from 0 l.fn.recorded ≡ l.lists ++ lists_from l.op (into_iter_items l.own-iterator))
    × (l.op + length (into_iter_items l.own-iterator) ≡ length l.fn.recorded)
    × (into_iter_len l.own-iterator ≡ length (into_iter_items l.own-iterator))
