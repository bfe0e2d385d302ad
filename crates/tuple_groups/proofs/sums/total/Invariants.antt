use Rattle.std.proofs.Common.{◌≡◌, ◌≤◌, length, drop}
use Rattle.spl_value.specs.Wrap.{wrapped}
use Rattle.stream_model.specs.Aggregates.{total}
use Rattle.tuple_groups.specs.Columns.{column}
use Rattle.tuple_groups.specs.Seen.{seen}
use Rattle.tuple_groups.proofs.sums.total.Given as goal

abbrev pub invariant-left : goal.invariant-left
invariant-left l = record { within : l.left ≤ length l.tuples; sum : l.sum ≡ wrapped l.kind (total (column l.place (seen (drop l.left l.tuples)))) }

abbrev pub decreases-left : goal.decreases-left
decreases-left l = l.left
