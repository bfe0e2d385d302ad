use Rattle.ordered_link.specs.Ends.{IsSenderOf, IsTakerOf}
use Rattle.network_tests.proofs.links.called.Given as goal

abbrev pub invariant-loop-word : goal.invariant-loop-word
invariant-loop-word g l = IsSenderOf l.line l.send × IsTakerOf l.line l.take
