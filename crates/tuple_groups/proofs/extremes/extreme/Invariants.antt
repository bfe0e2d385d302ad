use Rattle.std.proofs.Common.{◌≡◌, ◌≤◌, length, drop}
use Rattle.std.specs.Option.{option_copied}
use Rattle.stream_model.specs.Aggregates.{least_by}
use Rattle.tuple_groups.specs.Columns.{column}
use Rattle.tuple_groups.specs.Extremes.{before}
use Rattle.tuple_groups.specs.Seen.{seen}
use Rattle.tuple_groups.proofs.extremes.extreme.Given as goal

abbrev pub invariant-left : goal.invariant-left
invariant-left l = record { within : l.left ≤ length l.tuples; best : option_copied l.best ≡ least_by (before l.greatest) (column l.place (seen (drop l.left l.tuples))) }

abbrev pub decreases-left : goal.decreases-left
decreases-left l = l.left
