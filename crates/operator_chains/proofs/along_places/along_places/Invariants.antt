use Rattle.std.proofs.Common.{◌≡◌, ◌+◌, take, drop, length}
use Rattle.operator_chains.specs.Places.{IsBelow, given_by}
use Rattle.operator_chains.specs.steps.Along.{Along}
use Rattle.operator_chains.proofs.along_places.along_places.Given as goal

abbrev pub invariant-loop-slot : goal.invariant-loop-slot
invariant-loop-slot g l = (Along g.R.React.spec g.R.React.stands l.initial.slots (take l.slot-index l.slots) (drop l.slot-index l.slots)
    (given_by l.now l.places l.outs) (given_by l.fn.given l.initial.places l.initial.outs))
    × (l.own ≡ l.slot-index + 2) × (length l.places ≡ length l.initial.places) × (IsBelow l.own l.now)
