use Rattle.std.proofs.Common.{◌≡◌, [], replicate}
use Rattle.pe_fusion.proofs.readers.unread.Given as goal

abbrev pub invariant-streams : goal.invariant-streams
invariant-streams l = l.readers ≡ replicate l.counter []
