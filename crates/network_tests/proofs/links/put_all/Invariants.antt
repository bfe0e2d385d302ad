use Rattle.ordered_link.specs.Ends.{IsSenderOf}
use Rattle.network_tests.proofs.links.put_all.Given as goal

abbrev pub invariant-loop-number : goal.invariant-loop-number
invariant-loop-number g l = IsSenderOf l.link l.pass
