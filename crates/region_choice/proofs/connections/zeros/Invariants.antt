use Rattle.std.proofs.Common.{◌≡◌, replicate}
use Rattle.region_choice.proofs.connections.zeros.Given as goal

abbrev pub invariant-zeros : goal.invariant-zeros
invariant-zeros l = l.counts ≡ replicate l.counter 0
