use Rattle.std.proofs.Common.{◌≡◌, ◌<◌, ◌^◌}
use Rattle.spl_value.specs.declared.routing.Routing.TheVariants.{Turns}
use Rattle.network_tests.proofs.splitters.markers.Given as goal

abbrev pub invariant-loop-sent : goal.invariant-loop-sent
invariant-loop-sent l = (l.splitter.sent ≡ l._sent) × (l.splitter.routing ≡ Turns) × (l.count < 2 ^ 32)
