use Rattle.std.proofs.Common.{◌≡◌, ◌+◌, ◌++◌, drop}
use Rattle.pe_fusion.specs.FusedNets.{outer_links}
use Rattle.pe_fusion.specs.steps.Building.{start_at}
use Rattle.pe_fusion.proofs.links.add_readers.Given as goal

abbrev pub invariant-loop-reader : goal.invariant-loop-reader
invariant-loop-reader l = record {
  rest : l.links ++ outer_links (start_at l.starts) l.from l.output (drop l.reader-index l.readers)
      ≡ l.fn.links ++ outer_links (start_at l.starts) l.from l.first l.readers;
  next : l.output ≡ l.first + l.reader-index;
}
