use Rattle.std.proofs.Common.{◌≡◌, ◌++◌, drop}
use Rattle.pe_fusion.specs.steps.Building.{all_elements}
use Rattle.pe_fusion.proofs.elements.elements.Given as goal

abbrev pub invariant-loop-piece : goal.invariant-loop-piece
invariant-loop-piece l = l.elements ++ all_elements (drop l.piece-index l.pieces) ≡ all_elements l.pieces
