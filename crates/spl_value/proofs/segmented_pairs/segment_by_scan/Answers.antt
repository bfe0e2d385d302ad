use Rattle.std.proofs.Common.{ap, sym, ◌∙◌, ◌≡◌, ◌-◌, suc, subst, arith, drop}
use Rattle.std.specs.Prelude.{IsTrue, nat_eq}
use Rattle.std.specs.Option.{option_copied}
use Rattle.std.specs.Ordering.{ordering_index}
use Rattle.spl_value.specs.Flattened.{flattened}
use Rattle.spl_value.specs.steps.Segments.{are_above}
use Rattle.spl_value.proofs.SegmentLaws.{side_above, side_below, side_empty, is_greater, isnt_greater, not_true, not_false}
use Rattle.spl_value.proofs.segmented_pairs.segment_by_scan.Goals as goal
use Rattle.spl_value.proofs.segmented_pairs.segment_by_scan.Goals.{in-Some+else-ne, in_default}

pub returns-then-ne : goal.returns-then-ne
returns-then-ne c =
    let k = c.args.key.now in
    let all = c.args.segments.now in
    let at = c.segments.at in
    let inside = c.segments.invariant.0 in
    let other = not_true (nat_eq (ordering_index c.order.result) 2) (sym c.ne.ensures ∙ c.if-ne.true) in
    record {
      within = inside;
      before = side_below k all at c.index-segments-at.result c.as_slice.result.now inside c.index-segments-at.is
          c.as_slice.ensures c.in-Some.first.now c.in-Some.ensures.value c.requires.sorted
          (λ e. isnt_greater c.order.result other (c.order.ensures ∙ e));
      behind = c.segments.invariant.1;
    }

pub segments-preserved : goal.segments-preserved
segments-preserved c =
    let k = c.args.key.now in
    let all = c.args.segments.now in
    let at = c.segments.at in
    let own = c.index-segments-at.result in
    let pairs = c.as_slice.result.now in
    let inside = c.segments.invariant.0 in
    let less : at ≡ suc (at - 1) = omega (arith, c.segments-test.true) in
    let above : IsTrue (are_above k (flattened (drop at all))) =
    elim c.match-first.branch [
      | in-Some+else-ne w ↦ side_above k all at own pairs inside c.index-segments-at.is c.as_slice.ensures
          w.in-Some.first.now w.in-Some.ensures.value c.requires.sorted
          (let same = not_false (nat_eq (ordering_index w.order.result) 2) (sym w.ne.ensures ∙ w.if-ne.false) in
          sym w.order.ensures ∙ is_greater w.order.result same)
      | in_default w ↦ side_empty k all at own pairs inside c.index-segments-at.is c.as_slice.ensures
          (sym c.first.ensures.value ∙ ap option_copied w.in_default.is) c.segments.invariant.1
    ] in
    (omega (arith, inside, c.segments-test.true), subst (λ n. IsTrue (are_above k (flattened (drop n all)))) less above)
