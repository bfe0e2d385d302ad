use Rattle.std.proofs.Common.{◌≡◌, List, length}
use Rattle.std.specs.Vec.Iter.{into_iter_items, into_iter_len}
use Rattle.stream_model.specs.Stream.{Event}
use Rattle.list_engine.specs.declared.operator.Standing.TheVariants.{Live}
use Rattle.list_engine.specs.steps.Taking.{MayCome, Reached, Task}
use Rattle.list_engine.proofs.Taking.{TakingInput}
use Rattle.list_engine.proofs.operator.take_input.Given as goal

-- those so far were taken, and the others are left
abbrev pub invariant-loop-item : goal.invariant-loop-item
invariant-loop-item g l = ((task : Task) (done : List Event) → Reached g.R.React.spec g.R.React.stands task done l.fn.operator l.fn.given Live → MayCome task.op done l.input l.fn.items
    → TakingInput g.R.React.spec g.R.React.stands task done l.input l.fn.items (into_iter_items l.item-iterator) l.operator l.given)
    × (into_iter_len l.item-iterator ≡ length (into_iter_items l.item-iterator))
