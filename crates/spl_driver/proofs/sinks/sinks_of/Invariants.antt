use Rattle.std.proofs.Common.{◌≡◌, ◌++◌, ◌+◌, length}
use Rattle.spl_driver.specs.steps.Steps.{sinks_from, sinks_of}
use Rattle.spl_driver.proofs.sinks.sinks_of.Given as goal

abbrev pub invariant-operators : goal.invariant-operators
invariant-operators l = (l.sinks ++ sinks_from l.op l.parts ≡ sinks_of l.checked) × (l.op + length l.parts ≡ length l.checked.parts)

abbrev pub decreases-operators : goal.decreases-operators
decreases-operators l = length l.parts
