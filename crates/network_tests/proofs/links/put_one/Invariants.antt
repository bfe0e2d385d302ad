use Rattle.ordered_link.specs.Ends.{IsSenderOf}
use Rattle.network_tests.proofs.links.put_one.Given as goal

abbrev pub invariant-tries : goal.invariant-tries
invariant-tries g l = IsSenderOf l.link l.pass
