use Rattle.std.proofs.Common.{ap, sym, refl, subst, ◌∙◌, ◌≡◌, Some, ◌<◌, slice_index_or}
use Rattle.std.specs.Prelude.{slice_set}
use Rattle.std.proofs.lemmas.List.{length-set}
use Rattle.spl_value.specs.Flattened.{flattened}
use Rattle.spl_value.specs.steps.Segments.{IsSegmentOf}
use Rattle.spl_value.proofs.Lists.{item_there}
use Rattle.spl_value.proofs.SegmentLaws.{segment_sorted, segment_get, segment_without, flattened-remove_empty}
use Rattle.spl_value.proofs.segmented_pairs.remove_in.Goals as goal

pub remove_key-value-requires : goal.remove_key-value-requires
remove_key-value-requires c =
    let k = c.args.key.now in
    let all = c.args.segments.now in
    let at = c.segment_of-at.result in
    let its = subst (λ l. IsSegmentOf k l at) c.as_slice.ensures c.segment_of-at.ensures in
    segment_sorted k all at c.item_mut.result.now its c.item_mut.ensures.item c.requires

pub returns-then-is_empty-2-clause-value : goal.returns-then-is_empty-2-clause-value
returns-then-is_empty-2-clause-value c =
    let k = c.args.key.now in
    let all = c.args.segments.now in
    let at = c.segment_of-at.result in
    let its = subst (λ l. IsSegmentOf k l at) c.as_slice.ensures c.segment_of-at.ensures in
    c.remove_key-value.ensures.value
    ∙ segment_get k all at c.item_mut.result.now its c.item_mut.ensures.item

pub returns-then-is_empty-2-clause-others : goal.returns-then-is_empty-2-clause-others
returns-then-is_empty-2-clause-others c =
    let k = c.args.key.now in
    let all = c.args.segments.now in
    let at = c.segment_of-at.result in
    let own = c.index-as_slice-at.result in
    let its = subst (λ l. IsSegmentOf k l at) c.as_slice.ensures c.segment_of-at.ensures in
    let changed = slice_set all at c.remove_key-value.new.self in
    let within = subst (λ n. at < n) (sym (length-set all at c.remove_key-value.new.self)) its.within in
    let is = subst (λ l. own ≡ slice_index_or l at own) c.as_slice-2.ensures c.index-as_slice-at.is in
    let here = item_there changed at own within is in
    ap flattened c.remove.ensures.rest
    ∙ flattened-remove_empty changed at (here ∙ ap Some (c.if-is_empty-2.ensures.0 refl))
    ∙ ap (λ l. flattened (slice_set all at l)) c.remove_key-value.ensures.others
    ∙ segment_without k all at c.item_mut.result.now its c.item_mut.ensures.item

pub returns-else-is_empty-2-clause-value : goal.returns-else-is_empty-2-clause-value
returns-else-is_empty-2-clause-value c =
    let k = c.args.key.now in
    let all = c.args.segments.now in
    let at = c.segment_of-at.result in
    let its = subst (λ l. IsSegmentOf k l at) c.as_slice.ensures c.segment_of-at.ensures in
    c.remove_key-value.ensures.value
    ∙ segment_get k all at c.item_mut.result.now its c.item_mut.ensures.item

pub returns-else-is_empty-2-clause-others : goal.returns-else-is_empty-2-clause-others
returns-else-is_empty-2-clause-others c =
    let k = c.args.key.now in
    let all = c.args.segments.now in
    let at = c.segment_of-at.result in
    let its = subst (λ l. IsSegmentOf k l at) c.as_slice.ensures c.segment_of-at.ensures in
    ap (λ l. flattened (slice_set all at l)) c.remove_key-value.ensures.others
    ∙ segment_without k all at c.item_mut.result.now its c.item_mut.ensures.item
