use Rattle.std.proofs.Common.{◌≡◌, ◌+◌, ◌++◌, drop, length}
use Rattle.std.specs.List.{flat_map}
use Rattle.pe_fusion.specs.FusedNets.{outer_links}
use Rattle.pe_fusion.specs.steps.Building.{start_at}
use Rattle.pe_fusion.specs.steps.Reading.{read_by}
use Rattle.pe_fusion.proofs.links.add_outs.Given as goal

abbrev pub invariant-loop-stream : goal.invariant-loop-stream
invariant-loop-stream l = record {
  rest : l.links ++ outer_links (start_at l.starts) l.from l.output (flat_map (read_by l.readers) (drop l.stream-index l.outs))
      ≡ l.fn.links ++ outer_links (start_at l.starts) l.from 0 (flat_map (read_by l.readers) l.outs);
  next : l.output + length (flat_map (read_by l.readers) (drop l.stream-index l.outs)) ≡ length (flat_map (read_by l.readers) l.outs);
}
