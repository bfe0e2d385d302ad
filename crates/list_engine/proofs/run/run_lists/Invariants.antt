use Rattle.std.proofs.Common.{length}
use Rattle.list_engine.proofs.Looping.{Remains}
use Rattle.list_engine.proofs.run.run_lists.Given as goal

abbrev pub decreases-operators : goal.decreases-operators
decreases-operators g l = length l.rest

-- the rest of the order is still to be run
abbrev pub invariant-operators : goal.invariant-operators
invariant-operators g l = Remains g.R.React.spec g.R.React.stands l.checked l.order l.fn.rows l.rest l.operators l.state
