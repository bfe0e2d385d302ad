use Rattle.std.proofs.Common.{◌≡◌, drop, length}
use Rattle.pe_fusion.specs.steps.Regions.{set_all}
use Rattle.pe_fusion.proofs.regions.set_all.Given as goal

abbrev pub invariant-loop-op : goal.invariant-loop-op
invariant-loop-op l = record {
  rest : set_all l.regions (drop l.op-index l.ops) l.region ≡ set_all l.fn.regions l.ops l.region;
  many : length l.regions ≡ length l.fn.regions;
}
