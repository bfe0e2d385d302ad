use Rattle.std.proofs.Common.{◌∙◌}
use Rattle.spl_value.proofs.Lists.{item_there}
use Rattle.spl_value.proofs.SegmentLaws.{segment_sorted, segment_get}
use Rattle.spl_value.proofs.segmented_pairs.find_in.Goals as goal

pub find-requires : goal.find-requires
find-requires c =
    let k = c.args.key.now in
    let all = c.args.segments.now in
    let at = c.segment_of.result in
    let own = c.index-segments-segment_of.result in
    let there = item_there all at own c.segment_of.ensures.within c.index-segments-segment_of.is in
    segment_sorted k all at own c.segment_of.ensures there c.requires

pub returns : goal.returns
returns c =
    let k = c.args.key.now in
    let all = c.args.segments.now in
    let at = c.segment_of.result in
    let own = c.index-segments-segment_of.result in
    let there = item_there all at own c.segment_of.ensures.within c.index-segments-segment_of.is in
    c.find.ensures ∙ segment_get k all at own c.segment_of.ensures there
