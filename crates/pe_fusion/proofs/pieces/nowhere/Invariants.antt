use Rattle.std.proofs.Common.{◌≡◌, None, replicate}
use Rattle.pe_fusion.proofs.pieces.nowhere.Given as goal

abbrev pub invariant-places : goal.invariant-places
invariant-places l = l.places ≡ replicate l.counter None
