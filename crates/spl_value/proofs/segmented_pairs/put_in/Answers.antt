use Rattle.std.proofs.Common.{ap, ◌∙◌, not, length}
use Rattle.std.specs.Prelude.{slice_set, is_some}
use Rattle.spl_value.specs.Flattened.{flattened}
use Rattle.spl_value.specs.Pairs.{are_pairs, pairs_get, pairs_put}
use Rattle.spl_value.proofs.SegmentLaws.{segment_sorted, segment_get, segment_put, put_grows, on_err, set_same}
use Rattle.spl_value.proofs.segmented_pairs.put_in.Goals as goal

pub put-requires : goal.put-requires
put-requires c =
    let k = c.args.key in
    let all = c.segment_with_room.new.segments in
    let at = c.in_ok-at.at in
    let own = c.item_mut-segment.result.now in
    let there = c.item_mut-segment.ensures.item in
    segment_sorted k all at own c.in_ok-at.ensures.at there (ap are_pairs c.in_ok-at.ensures.same ∙ c.requires)

pub returns-in_err-put-clause-err : goal.returns-in_err-put-clause-err
returns-in_err-put-clause-err c =
    let all = c.segment_with_room.new.segments in
    let at = c.in_ok-at.at in
    let unchanged = set_same all at c.item_mut-segment.result.now c.item_mut-segment.ensures.item in
    on_err c.from_residual-in_err-put.result
    (ap flattened (ap (λ l. slice_set all at l) c.in_err-put.ensures.err ∙ unchanged) ∙ c.in_ok-at.ensures.same)

pub returns-clause-ok : goal.returns-clause-ok
returns-clause-ok c =
    let k = c.args.key in
    let all = c.segment_with_room.new.segments in
    let at = c.in_ok-at.at in
    let own = c.item_mut-segment.result.now in
    ap (λ l. flattened (slice_set all at l)) c.in_ok-put.ensures.ok
    ∙ segment_put k all at own c.in_ok-at.ensures.at c.item_mut-segment.ensures.item c.args.value
    ∙ ap (λ l. pairs_put l k c.args.value) c.in_ok-at.ensures.same

pub returns-clause-more : goal.returns-clause-more
returns-clause-more c =
    let k = c.args.key in
    let all = c.segment_with_room.new.segments in
    let at = c.in_ok-at.at in
    let own = c.item_mut-segment.result.now in
    let its = c.in_ok-at.ensures.at in
    let there = c.item_mut-segment.ensures.item in
    let sorted = segment_sorted k all at own its there (ap are_pairs c.in_ok-at.ensures.same ∙ c.requires) in
    let put = c.len-has.ensures ∙ ap length c.in_ok-put.ensures.ok in
    ap not (put_grows own k c.args.value c.len-had.result c.len-has.result sorted c.len-had.ensures put
    ∙ ap is_some (segment_get k all at own its there ∙ ap (λ l. pairs_get l k) c.in_ok-at.ensures.same))
