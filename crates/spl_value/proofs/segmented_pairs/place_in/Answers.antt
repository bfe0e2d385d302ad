use Rattle.std.proofs.Common.{◌∙◌, sym}
use Rattle.spl_value.proofs.Lists.{item_there}
use Rattle.spl_value.proofs.PairsLaws.{none_at_gap}
use Rattle.spl_value.proofs.SegmentLaws.{segment_sorted, segment_get}
use Rattle.spl_value.proofs.segmented_pairs.place_in.Goals as goal

pub place-requires : goal.place-requires
place-requires c =
    let k = c.args.key.now in
    let all = c.args.segments.now in
    let at = c.segment_of-at.result in
    let own = c.index-segments-at.result in
    let there = item_there all at own c.segment_of-at.ensures.within c.index-segments-at.is in
    segment_sorted k all at own c.segment_of-at.ensures there c.requires

pub returns-in-Ok : goal.returns-in-Ok
returns-in-Ok c =
    let all = c.args.segments.now in
    let at = c.segment_of-at.result in
    let own = c.index-segments-at.result in
    let there = item_there all at own c.segment_of-at.ensures.within c.index-segments-at.is in
    record { segment = own; there = there; place = c.in-Ok.ensures; its = c.segment_of-at.ensures }

pub returns-in-Err : goal.returns-in-Err
returns-in-Err c =
    let k = c.args.key.now in
    let all = c.args.segments.now in
    let at = c.segment_of-at.result in
    let own = c.index-segments-at.result in
    let there = item_there all at own c.segment_of-at.ensures.within c.index-segments-at.is in
    sym (none_at_gap k own c.in-Err.field-0 c.in-Err.ensures
    ∙ segment_get k all at own c.segment_of-at.ensures there)
