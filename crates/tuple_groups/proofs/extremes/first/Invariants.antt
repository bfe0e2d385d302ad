use Rattle.std.proofs.Common.{◌≡◌, drop}
use Rattle.tuple_groups.specs.Columns.{column}
use Rattle.tuple_groups.specs.Seen.{seen}
use Rattle.tuple_groups.proofs.extremes.first.Given as goal

abbrev pub invariant-loop-tuple : goal.invariant-loop-tuple
invariant-loop-tuple l = column l.place (seen (drop l.tuple-index l.tuples)) ≡ column l.place (seen l.tuples)
