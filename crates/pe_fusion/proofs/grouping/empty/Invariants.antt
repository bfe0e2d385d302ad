use Rattle.std.proofs.Common.{◌≡◌, [], replicate}
use Rattle.pe_fusion.proofs.grouping.empty.Given as goal

abbrev pub invariant-workers : goal.invariant-workers
invariant-workers l = l.groups ≡ replicate l.counter []
