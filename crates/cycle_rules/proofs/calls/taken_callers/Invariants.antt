use Rattle.std.proofs.Common.{◌-◌, length}
use Rattle.cycle_rules.specs.steps.Taking.{IsTaken}
use Rattle.cycle_rules.proofs.calls.taken_callers.Given as goal

abbrev pub invariant-passes : goal.invariant-passes
invariant-passes l = IsTaken l.calls l.taken

abbrev pub decreases-passes : goal.decreases-passes
decreases-passes l = length l.calls - length l.taken.places.items
