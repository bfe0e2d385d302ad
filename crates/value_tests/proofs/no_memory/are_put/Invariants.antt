use Rattle.std.proofs.Common.{IsTrue}
use Rattle.spl_value.specs.Pairs.{are_pairs}
use Rattle.value_tests.proofs.no_memory.are_put.Given as goal

abbrev pub invariant-loop-step : goal.invariant-loop-step
invariant-loop-step l = IsTrue (are_pairs l.pairs)
