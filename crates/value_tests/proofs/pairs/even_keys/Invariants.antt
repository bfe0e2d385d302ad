use Rattle.std.proofs.Common.{IsTrue}
use Rattle.spl_value.specs.Pairs.{are_pairs}
use Rattle.value_tests.proofs.pairs.even_keys.Given as goal

abbrev pub invariant-loop-i : goal.invariant-loop-i
invariant-loop-i l = IsTrue (are_pairs l.pairs)
