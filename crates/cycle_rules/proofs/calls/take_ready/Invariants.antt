use Rattle.std.proofs.Common.{take}
use Rattle.cycle_rules.specs.steps.Taking.{Takes}
use Rattle.cycle_rules.proofs.calls.take_ready.Given as goal

abbrev pub invariant-loop-place : goal.invariant-loop-place
invariant-loop-place l = Takes l.calls (take l.place-index l.places) l.fn.taken l.taken
