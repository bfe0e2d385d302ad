use Rattle.std.proofs.Common.{◌≡◌, ◌+◌, ◌++◌, drop}
use Rattle.pe_fusion.specs.steps.Building.{all_links}
use Rattle.pe_fusion.specs.steps.Starting.{sizes}
use Rattle.pe_fusion.proofs.links.links.Given as goal

abbrev pub invariant-loop-piece : goal.invariant-loop-piece
invariant-loop-piece l = record {
  rest : l.links ++ all_links l.graph.ops l.starts l.readers l.start (drop l.piece-index l.pieces) ≡ all_links l.graph.ops l.starts l.readers 0 l.pieces;
  sum : l.start + sizes (drop l.piece-index l.pieces) ≡ sizes l.pieces;
}
