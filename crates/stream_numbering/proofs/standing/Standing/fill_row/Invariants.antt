use Rattle.std.proofs.Common.{◌≡◌, ◌++◌, map, drop}
use Rattle.language_model.specs.Numbering.{outputs_from, site_at}
use Rattle.stream_numbering.specs.steps.Describes.{Describes}
use Rattle.stream_numbering.specs.steps.SiteTable.{Parts, stream_there, row_of}
use Rattle.stream_numbering.proofs.standing.Standing.fill_row.Given as goal

abbrev pub invariant-loop-invocation : goal.invariant-loop-invocation
invariant-loop-invocation l =
    (parts : Parts) → Describes l.self parts
    → l.row ++ map (λ o. stream_there parts l.table (site_at l.number o) o.output) (outputs_from l.next (drop l.invocation-index l.composite.graph))
    ≡ row_of parts l.table l.number l.composite
