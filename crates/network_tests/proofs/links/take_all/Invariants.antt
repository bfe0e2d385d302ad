use Rattle.ordered_link.specs.Ends.{IsTakerOf}
use Rattle.network_tests.proofs.links.take_all.Given as goal

abbrev pub invariant-loop-number : goal.invariant-loop-number
invariant-loop-number g l = IsTakerOf l.link l.pass
