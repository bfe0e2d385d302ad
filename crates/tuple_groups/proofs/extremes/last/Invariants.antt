use Rattle.std.proofs.Common.{◌≡◌, ◌≤◌, [], length, drop}
use Rattle.tuple_groups.specs.Columns.{column}
use Rattle.tuple_groups.specs.Seen.{seen}
use Rattle.tuple_groups.proofs.extremes.last.Given as goal

abbrev pub invariant-left : goal.invariant-left
invariant-left l = record { within : l.left ≤ length l.tuples; none : column l.place (seen (drop l.left l.tuples)) ≡ [] }

abbrev pub decreases-left : goal.decreases-left
decreases-left l = l.left
