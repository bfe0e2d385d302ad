use Rattle.std.proofs.Common.{◌≡◌, replicate}
use Rattle.pe_fusion.proofs.porting.ones.Given as goal

abbrev pub invariant-ones : goal.invariant-ones
invariant-ones l = l.ones ≡ replicate l.counter 1
