use Rattle.std.proofs.Common.{◌-◌, ◌≤◌, length}
use Rattle.row_reader.specs.steps.Marked.{IsRun}
use Rattle.row_reader.proofs.marked.run_end.Given as goal

abbrev pub invariant-run : goal.invariant-run
invariant-run l = record { within : l.at ≤ length l.text; run : IsRun l.text l.from l.at }

abbrev pub decreases-run : goal.decreases-run
decreases-run l = length l.text - l.at
