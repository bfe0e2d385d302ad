use Rattle.std.proofs.Common.{◌-◌, ◌≤◌, length}
use Rattle.row_reader.proofs.Records.{ReadsQuoted}
use Rattle.row_reader.proofs.marked.add_quoted.Given as goal

abbrev pub invariant-runs : goal.invariant-runs
invariant-runs l = record { within : l.at ≤ length l.text; read : ReadsQuoted l.text l.from l.fn.field.items l.at l.field.items }

abbrev pub decreases-runs : goal.decreases-runs
decreases-runs l = length l.text - l.at
