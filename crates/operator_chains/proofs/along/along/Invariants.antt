use Rattle.std.proofs.Common.{take, drop}
use Rattle.operator_chains.specs.steps.Along.{Along}
use Rattle.operator_chains.proofs.along.along.Given as goal

abbrev pub invariant-loop-slot : goal.invariant-loop-slot
invariant-loop-slot g l = Along g.R.React.spec g.R.React.stands l.initial.slots (take l.slot-index l.slots) (drop l.slot-index l.slots) l.now l.fn.caused
