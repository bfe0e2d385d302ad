use Rattle.graph_tests.specs.Below.{AreBelow}
use Rattle.graph_tests.proofs.analyses.numbers_below.Given as goal

abbrev pub invariant-loop-number : goal.invariant-loop-number
invariant-loop-number l = AreBelow l.count l.numbers.items
