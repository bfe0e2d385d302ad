use Rattle.std.proofs.Common.{sym, ◌∙◌, ◌≡◌, ◌-◌, ◌+◌, ◌/◌, ◌<◌, suc, subst, arith, length, drop}
use Rattle.std.specs.Prelude.{IsTrue}
use Rattle.spl_value.specs.Flattened.{flattened}
use Rattle.spl_value.specs.steps.Segments.{are_above}
use Rattle.spl_value.proofs.SegmentLaws.{side_above, side_below, is_greater, isnt_greater}
use Rattle.spl_value.proofs.segmented_pairs.segment_of.Goals as goal

pub halves-preserved-then-eq : goal.halves-preserved-then-eq
halves-preserved-then-eq c =
    let k = c.args.key.now in
    let all = c.args.segments.now in
    let low = c.halves.low in
    let high = c.halves.high in
    let (between, within, before, behind) = c.halves.invariant in
    let middle : low + (high - low) / 2 < length all = omega (arith, between, within, c.halves-test.true) in (
      omega (arith, between, c.halves-test.true),
      omega (arith, middle),
      before,
      side_above k all (low + (high - low) / 2) c.index-segments-middle.result c.as_slice.result.now middle
          c.index-segments-middle.is c.as_slice.ensures c.in-Some.first.now c.in-Some.ensures.value c.requires.sorted
          (sym c.order.ensures ∙ is_greater c.order.result (sym c.eq.ensures ∙ c.if-eq.true)),
    )

pub halves-preserved : goal.halves-preserved
halves-preserved c =
    let k = c.args.key.now in
    let all = c.args.segments.now in
    let low = c.halves.low in
    let high = c.halves.high in
    let (between, within, before, behind) = c.halves.invariant in
    let middle : low + (high - low) / 2 < length all = omega (arith, between, within, c.halves-test.true) in (
      omega (arith, between, c.halves-test.true),
      within,
      side_below k all (low + (high - low) / 2) c.index-segments-middle.result c.as_slice.result.now middle
          c.index-segments-middle.is c.as_slice.ensures c.in-Some.first.now c.in-Some.ensures.value c.requires.sorted
          (λ e. isnt_greater c.order.result (sym c.eq.ensures ∙ c.if-eq.false) (c.order.ensures ∙ e)),
      behind,
    )

pub returns : goal.returns
returns c =
    let k = c.args.key.now in
    let all = c.args.segments.now in
    let (between, within, before, behind) = c.halves.invariant in
    let next : c.halves.high ≡ suc c.halves.low = omega (arith, between, c.halves-test.false) in
    record {
      within = omega (arith, between, within);
      before = before;
      behind = subst (λ n. IsTrue (are_above k (flattened (drop n all)))) next behind;
    }
