use Rattle.std.proofs.Common.{IsTrue}
use Rattle.spl_value.specs.Pairs.{are_pairs}
use Rattle.value_tests.proofs.pairs.pairs_of.Given as goal

abbrev pub invariant-loop-word : goal.invariant-loop-word
invariant-loop-word l = IsTrue (are_pairs l.pairs)
