use Rattle.ordered_link.specs.Ends.{IsTakerOf}
use Rattle.network_tests.proofs.links.take_next.Given as goal

abbrev pub invariant-tries : goal.invariant-tries
invariant-tries g l = IsTakerOf l.link l.pass
