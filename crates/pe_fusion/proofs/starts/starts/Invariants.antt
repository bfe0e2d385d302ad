use Rattle.std.proofs.Common.{◌≡◌, ◌+◌, drop, length, replicate}
use Rattle.pe_fusion.specs.steps.Starting.{sizes, start_all}
use Rattle.pe_fusion.proofs.starts.starts.Given as goal

abbrev pub invariant-loop-piece : goal.invariant-loop-piece
invariant-loop-piece l = record {
  rest : start_all l.starts l.start (drop l.piece-index l.pieces) ≡ start_all (replicate l.operators 0) 0 l.pieces;
  many : length l.starts ≡ l.operators;
  sum : l.start + sizes (drop l.piece-index l.pieces) ≡ sizes l.pieces;
}
