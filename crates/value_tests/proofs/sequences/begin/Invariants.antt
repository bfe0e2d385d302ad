use Rattle.std.proofs.Common.{IsTrue}
use Rattle.spl_value.specs.Pairs.{are_pairs}
use Rattle.value_tests.proofs.sequences.begin.Given as goal

abbrev pub invariant-puts : goal.invariant-puts
invariant-puts l = IsTrue (are_pairs l.pairs)
