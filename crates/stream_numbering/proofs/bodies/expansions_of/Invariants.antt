use Rattle.std.proofs.Common.{◌≡◌, ◌++◌, drop}
use Rattle.stream_numbering.specs.steps.StreamTable.{expansions_in}
use Rattle.stream_numbering.proofs.bodies.expansions_of.Given as goal

abbrev pub invariant-loop-body : goal.invariant-loop-body
invariant-loop-body l = l.expansions ++ expansions_in l.table l.rows l.number (drop l.body-index l.bodies) ≡ expansions_in l.table l.rows 0 l.bodies
