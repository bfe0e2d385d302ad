use Rattle.std.proofs.Common.{◌≡◌, None, drop, length, replicate}
use Rattle.pe_fusion.specs.steps.Regions.{enter_all}
use Rattle.pe_fusion.proofs.regions.operator_regions.Given as goal

abbrev pub invariant-loop-region : goal.invariant-loop-region
invariant-loop-region l = record {
  rest : enter_all l.width l.number (drop l.region-index l.plan) l.regions ≡ enter_all l.width 0 l.plan (replicate l.operators None);
  number : l.number ≡ l.region-index;
  many : length l.regions ≡ l.operators;
}
