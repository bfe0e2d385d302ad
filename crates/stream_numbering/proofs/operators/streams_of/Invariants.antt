use Rattle.std.proofs.Common.{◌≡◌, ◌++◌, drop}
use Rattle.language_model.specs.Numbering.{streams_from}
use Rattle.stream_numbering.proofs.operators.streams_of.Given as goal

abbrev pub invariant-loop-operation : goal.invariant-loop-operation
invariant-loop-operation l =
    (l.maker ≡ l.operation-index)
    × (l.streams ++ streams_from l.maker (drop l.operation-index l.operations) ≡ streams_from 0 l.operations)
