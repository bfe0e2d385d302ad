use Rattle.std.proofs.Common.{IsTrue}
use Rattle.spl_value.specs.Pairs.{are_pairs}
use Rattle.value_tests.proofs.sequences.are_alike.Given as goal

abbrev pub invariant-calls : goal.invariant-calls
invariant-calls l = IsTrue (are_pairs l.pairs)
