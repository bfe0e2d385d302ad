use Rattle.std.proofs.Common.{◌≡◌, length}
use Rattle.stream_numbering.specs.steps.Describes.{Describes}
use Rattle.stream_numbering.specs.steps.SiteTable.{Parts, filled, table_of}
use Rattle.stream_numbering.proofs.standing.Standing.fill.Given as goal

abbrev pub invariant-loop-number : goal.invariant-loop-number
invariant-loop-number l =
    (length l.table ≡ l.count)
    × ((parts : Parts) → Describes l.self parts → filled parts l.number l.table ≡ table_of parts)
