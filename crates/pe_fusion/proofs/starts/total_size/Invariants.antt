use Rattle.std.proofs.Common.{◌≡◌, ◌+◌, drop}
use Rattle.pe_fusion.specs.steps.Starting.{sizes}
use Rattle.pe_fusion.proofs.starts.total_size.Given as goal

abbrev pub invariant-loop-piece : goal.invariant-loop-piece
invariant-loop-piece l = l.total + sizes (drop l.piece-index l.pieces) ≡ sizes l.pieces
