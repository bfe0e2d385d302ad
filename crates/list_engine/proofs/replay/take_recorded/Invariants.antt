use Rattle.std.proofs.Common.{length}
use Rattle.list_engine.specs.steps.Taking.{task_of}
use Rattle.list_engine.proofs.Replaying.{Replaying}
use Rattle.list_engine.proofs.replay.take_recorded.Given as goal

abbrev pub decreases-entries : goal.decreases-entries
decreases-entries g l = length l.rest

-- an item was taken for each of the entries before the rest
abbrev pub invariant-entries : goal.invariant-entries
invariant-entries g l =
    Replaying g.R.React.spec g.R.React.stands (task_of (g.R.React.spec l.fn.operator) l.fn.given) l.fn.lists l.fn.entries l.left l.rest l.operator l.given
