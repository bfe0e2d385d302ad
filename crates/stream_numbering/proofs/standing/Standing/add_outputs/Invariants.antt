use Rattle.std.proofs.Common.{◌≡◌, ◌++◌, map}
use Rattle.language_model.specs.Numbering.{numbers_from}
use Rattle.stream_numbering.specs.steps.Describes.{Describes}
use Rattle.stream_numbering.specs.steps.SiteTable.{Parts, stream_there}
use Rattle.stream_numbering.proofs.standing.Standing.add_outputs.Given as goal

abbrev pub invariant-loop-output : goal.invariant-loop-output
invariant-loop-output l =
    (parts : Parts) → Describes l.self parts → l.row ≡ l.fn.row ++ map (stream_there parts l.table l.site) (numbers_from 0 l.output)
