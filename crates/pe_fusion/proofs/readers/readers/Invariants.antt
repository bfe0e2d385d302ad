use Rattle.std.proofs.Common.{◌≡◌, [], drop, length, replicate}
use Rattle.pe_fusion.specs.steps.Reading.{add_operators}
use Rattle.pe_fusion.proofs.readers.readers.Given as goal

abbrev pub invariant-loop-op : goal.invariant-loop-op
invariant-loop-op l = record {
  rest : add_operators l.readers l.number (drop l.op-index l.checked.graph.ops) ≡ add_operators (replicate (length l.checked.graph.streams) []) 0 l.checked.graph.ops;
  number : l.number ≡ l.op-index;
  many : length l.readers ≡ length l.checked.graph.streams;
}
