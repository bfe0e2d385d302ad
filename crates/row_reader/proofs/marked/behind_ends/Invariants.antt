use Rattle.std.proofs.Common.{◌≡◌, ◌-◌, ◌≤◌, drop, length}
use Rattle.row_reader.specs.steps.Marked.{first_record}
use Rattle.row_reader.proofs.marked.behind_ends.Given as goal

abbrev pub invariant-ends : goal.invariant-ends
invariant-ends l = record { within : l.at ≤ length l.text; same : first_record (drop l.at l.text) ≡ first_record (drop l.from l.text) }

abbrev pub decreases-ends : goal.decreases-ends
decreases-ends l = length l.text - l.at
