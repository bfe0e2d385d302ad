use Rattle.std.proofs.Common.{◌≡◌, ◌+◌, drop, length}
use Rattle.pe_fusion.specs.steps.Reading.{add_reads}
use Rattle.pe_fusion.proofs.readers.add_port.Given as goal

abbrev pub invariant-loop-stream : goal.invariant-loop-stream
invariant-loop-stream l = record {
  rest : add_reads l.readers l.op l.input (drop l.stream-index l.port) ≡ add_reads l.fn.readers l.op l.first l.port;
  many : length l.readers ≡ length l.fn.readers;
  next : l.input ≡ l.first + l.stream-index;
}
