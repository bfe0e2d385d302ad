use Rattle.std.proofs.Common.{◌≡◌, replicate}
use Rattle.pe_fusion.proofs.starts.zeros.Given as goal

abbrev pub invariant-zeros : goal.invariant-zeros
invariant-zeros l = l.zeros ≡ replicate l.counter 0
