use Rattle.std.proofs.Common.{◌≡◌, None, replicate}
use Rattle.pe_fusion.proofs.regions.outside.Given as goal

abbrev pub invariant-operators : goal.invariant-operators
invariant-operators l = l.regions ≡ replicate l.counter None
