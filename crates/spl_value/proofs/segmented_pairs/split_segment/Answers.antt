use Rattle.std.proofs.Common.{ap, ◌∙◌, ◌≡◌, ◌+◌, ◌≤◌, suc, arith, length}
use Rattle.std.specs.Prelude.{slice_set}
use Rattle.std.specs.List.{insert}
use Rattle.spl_value.specs.Flattened.{flattened}
use Rattle.spl_value.proofs.SegmentLaws.{split-same, flattened-insert_empty, set_same}
use Rattle.spl_value.proofs.segmented_pairs.split_segment.Goals as goal

pub returns-in_err-back-clause-same : goal.returns-in_err-back-clause-same
returns-in_err-back-clause-same c =
    let behind : c.args.at + 1 ≤ length c.args.segments.now = omega (arith, c.requires) in
    let inserted = c.in_ok-insert.ensures.ok ∙ ap (λ l. insert c.args.segments.now (c.args.at + 1) l) c.new.ensures in
    let unsplit = ap (λ l. slice_set c.insert.new.self c.args.at l) c.in_err-back.ensures.err
    ∙ set_same c.insert.new.self c.args.at c.item_mut-segment.result.now c.item_mut-segment.ensures.item in
    ap flattened (unsplit ∙ inserted) ∙ flattened-insert_empty c.args.segments.now (c.args.at + 1) behind

pub returns-clause-same : goal.returns-clause-same
returns-clause-same c =
    let next : c.args.at + 1 ≡ suc c.args.at = omega arith in
    split-same c.args.segments.now c.insert.new.self c.set.new.self c.args.at (c.args.at + 1) _
    c.item_mut-segment.result.now c.split_off.new.self c.in_ok-back.back c.requires next
    (c.in_ok-insert.ensures.ok ∙ ap (λ l. insert c.args.segments.now (c.args.at + 1) l) c.new.ensures)
    c.item_mut-segment.ensures.item c.in_ok-back.ensures.front c.in_ok-back.ensures.back c.set.ensures
