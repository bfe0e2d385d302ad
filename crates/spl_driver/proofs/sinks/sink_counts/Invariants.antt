use Rattle.std.proofs.Common.{◌≡◌, ◌++◌, ◌+◌, length}
use Rattle.spl_driver.specs.steps.Steps.{counts_from}
use Rattle.spl_driver.proofs.sinks.sink_counts.Given as goal

abbrev pub invariant-operators : goal.invariant-operators
invariant-operators l = (l.counts ++ counts_from l.op l.rest l.left ≡ counts_from 0 l.checked.parts l.rows) × (l.op + length l.rest ≡ length l.checked.parts)

abbrev pub decreases-operators : goal.decreases-operators
decreases-operators l = length l.rest
