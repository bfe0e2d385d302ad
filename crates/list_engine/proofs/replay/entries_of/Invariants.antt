use Rattle.std.proofs.Common.{◌≡◌, drop}
use Rattle.stream_model.specs.Arrivals.{entries_in}
use Rattle.list_engine.proofs.replay.entries_of.Given as goal

-- the lists so far are of other operators
abbrev pub invariant-loop-list : goal.invariant-loop-list
invariant-loop-list l = entries_in (drop l.list-index l.list-items) l.number ≡ entries_in l.arrivals.lists l.number
