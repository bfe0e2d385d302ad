use Rattle.std.proofs.Common.{◌≡◌, ◌+◌, ◌∷◌, ◌∙◌, suc, List, ℕ, Option, Some, ap, drop, length, slice_get, sym, arith}
use Rattle.spl_value.proofs.Lists.{drop_at, item_there}
use Rattle.stream_model.specs.declared.plan.Region.{Region}
use Rattle.pe_fusion.specs.declared.regions.OperatorRegion.{OperatorRegion}
use Rattle.pe_fusion.specs.steps.Regions.{entered, enter_all}
use Rattle.pe_fusion.proofs.RegionTables.{length-entered}
use Rattle.pe_fusion.proofs.regions.operator_regions.Goals as goal

pub enter-requires : goal.enter-requires
enter-requires c = λ n h.
    (let at : slice_get c.args.plan.now c.loop-region.region-index ≡ Some c.region-item.result =
    ap (λ (rs : List Region). slice_get rs c.loop-region.region-index) (sym c.as_slice-region-items.ensures)
    ∙ item_there c.as_slice-region-items.result.now c.loop-region.region-index c.region-item.result c.loop-region-test.true c.region-item.is in
    let inside = c.requires.within c.loop-region.region-index n c.region-item.result at h in
    let many = c.loop-region.invariant.many in
    omega (arith, inside, many))

pub loop-region-preserved : goal.loop-region-preserved
loop-region-preserved c =
    let i : ℕ = c.loop-region.region-index in
    let r : Region = c.region-item.result in
    let split : drop i c.args.plan.now ≡ r ∷ drop (i + 1) c.args.plan.now =
    ap (λ (rs : List Region). drop i rs) (sym c.as_slice-region-items.ensures)
    ∙ drop_at c.as_slice-region-items.result.now i r c.loop-region-test.true c.region-item.is
    ∙ ap (λ (rs : List Region). r ∷ drop (i + 1) rs) c.as_slice-region-items.ensures in
    let put : c.enter.new.regions ≡ entered c.args.width c.loop-region.number r c.loop-region.regions = c.enter.ensures in
    record {
      rest = ap (enter_all c.args.width (c.loop-region.number + 1) (drop (i + 1) c.args.plan.now)) put
          ∙ ap (λ n. enter_all c.args.width n (drop (i + 1) c.args.plan.now) (entered c.args.width c.loop-region.number r c.loop-region.regions)) (let z : c.loop-region.number + 1 ≡ suc c.loop-region.number = omega arith in z)
          ∙ ap (λ (rs : List Region). enter_all c.args.width c.loop-region.number rs c.loop-region.regions) (sym split)
          ∙ c.loop-region.invariant.rest;
      number = ap (λ n. n + 1) c.loop-region.invariant.number;
      many = ap (λ (rs : List (Option OperatorRegion)). length rs) put ∙ length-entered c.args.width c.loop-region.number r c.loop-region.regions r.ops ∙ c.loop-region.invariant.many;
    }
