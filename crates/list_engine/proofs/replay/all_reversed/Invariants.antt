use Rattle.std.proofs.Common.{◌≡◌, ◌++◌, length, map, reverse}
use Rattle.std.specs.Vec.Iter.{into_iter_items, into_iter_len}
use Rattle.list_engine.proofs.replay.all_reversed.Given as goal

-- those so far, and those that are left
abbrev pub invariant-loop-items : goal.invariant-loop-items
invariant-loop-items l = (map reverse l.fn.lists ≡ l.turned ++ map reverse (into_iter_items l.items-iterator))
    × (into_iter_len l.items-iterator ≡ length (into_iter_items l.items-iterator))
