use Rattle.std.proofs.Common.{ap, ◌∙◌, ◌≡◌, ◌-◌, suc, arith, length}
use Rattle.std.specs.Prelude.{slice_set}
use Rattle.spl_value.specs.Flattened.{flattened}
use Rattle.spl_value.proofs.SegmentLaws.{flattened-set_last, set_same, ok_follows, err_follows}
use Rattle.spl_value.proofs.segmented_list.push_in.Goals as goal

pub returns-clause-ok : goal.returns-clause-ok
returns-clause-ok g c =
    let at = c.len-at.result - 1 in
    let many = c.len-at.ensures in
    let same = ap length c.as_slice.ensures in
    let last : suc at ≡ length c.args.segments.now = omega (arith, many, same, c.in-len1-up.len_at_least) in
    ok_follows c.push.result
    (λ e. ap (λ l. flattened (slice_set c.args.segments.now at l)) e
    ∙ flattened-set_last c.args.segments.now at c.item_mut.result.now c.args.item last c.item_mut.ensures.item)
    c.push.ensures.ok

pub returns-clause-err : goal.returns-clause-err
returns-clause-err g c =
    let at = c.len-at.result - 1 in
    err_follows c.push.result
    (λ e. ap flattened (ap (λ l. slice_set c.args.segments.now at l) e
    ∙ set_same c.args.segments.now at c.item_mut.result.now c.item_mut.ensures.item))
    c.push.ensures.err
