use Rattle.std.proofs.Common.{◌≡◌}
use Rattle.language_model.specs.Numbering.{numbers_from}
use Rattle.stream_numbering.proofs.operators.numbers.Given as goal

abbrev pub invariant-loop-k : goal.invariant-loop-k
invariant-loop-k l = l.ids ≡ numbers_from l.first l.k
