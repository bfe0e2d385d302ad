use Rattle.std.proofs.Common.{◌≡◌, ◌+◌, drop, length}
use Rattle.std.specs.List.{concat}
use Rattle.pe_fusion.specs.steps.Reading.{add_reads}
use Rattle.pe_fusion.proofs.readers.add_operator.Given as goal

abbrev pub invariant-loop-port : goal.invariant-loop-port
invariant-loop-port l = record {
  rest : add_reads l.readers l.op l.input (concat (drop l.port-index l.ins)) ≡ add_reads l.fn.readers l.op 0 (concat l.ins);
  many : length l.readers ≡ length l.fn.readers;
  next : l.input + length (concat (drop l.port-index l.ins)) ≡ length (concat l.ins);
}
