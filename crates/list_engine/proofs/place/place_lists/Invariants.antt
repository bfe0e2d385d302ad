use Rattle.std.proofs.Common.{◌≡◌, length}
use Rattle.std.specs.Vec.Iter.{into_iter_items, into_iter_len}
use Rattle.list_engine.proofs.Placing.{PlacedSoFar}
use Rattle.list_engine.proofs.place.place_lists.Given as goal

-- a front of the lists was placed
abbrev pub invariant-loop-items : goal.invariant-loop-items
invariant-loop-items l = PlacedSoFar l.fn.lists l.fn.places (into_iter_items l.items-iterator) l.rest l.fn.table l.table
    × (into_iter_len l.items-iterator ≡ length (into_iter_items l.items-iterator))
