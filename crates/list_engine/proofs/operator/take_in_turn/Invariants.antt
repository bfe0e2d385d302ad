use Rattle.std.proofs.Common.{◌≡◌, length}
use Rattle.std.specs.Vec.Iter.{into_iter_items, into_iter_len}
use Rattle.list_engine.specs.steps.Taking.{task_of}
use Rattle.list_engine.proofs.Turns.{TakingTurns}
use Rattle.list_engine.proofs.operator.take_in_turn.Given as goal

-- all items of the inputs so far were taken, and the other inputs are left
abbrev pub invariant-loop-items : goal.invariant-loop-items
invariant-loop-items g l =
    TakingTurns g.R.React.spec g.R.React.stands (task_of (g.R.React.spec l.fn.operator) l.fn.given) l.fn.lists l.input (into_iter_items l.items-iterator) l.operator l.given
    × (into_iter_len l.items-iterator ≡ length (into_iter_items l.items-iterator))
