use Rattle.std.proofs.Common.{ap, sym, subst, ◌∙◌, ◌+◌, length, cond}
use Rattle.std.specs.Prelude.{IsTrue}
use Rattle.spl_value.specs.Flattened.{flattened}
use Rattle.spl_value.specs.Pairs.{are_pairs, pairs_contain}
use Rattle.spl_value.proofs.SegmentLaws.{put_length, not_true, not_false}
use Rattle.spl_value.proofs.segmented_pairs.SegmentedList+tuple2+Value+Value.put.Goals as goal

pub invariant_of-self-then-branch : goal.invariant_of-self-then-branch
invariant_of-self-then-branch c =
    let old = flattened c.self.inside.segments in
    let sorted : IsTrue (are_pairs old) = subst (λ l. IsTrue (are_pairs l)) (sym c.self.view_is) c.requires in
    let new = not_true (pairs_contain old c.args.key) (sym c.in_ok-put_in.ensures.more ∙ c.if-branch.true) in
    let put = ap length c.in_ok-put_in.ensures.ok ∙ put_length old c.args.key c.args.value sorted in
    ap (λ n. n + 1) c.self.invariant ∙ sym (put ∙ ap (λ b. cond b (length old) (length old + 1)) new)

pub invariant_of-self-else-branch : goal.invariant_of-self-else-branch
invariant_of-self-else-branch c =
    let old = flattened c.self.inside.segments in
    let sorted : IsTrue (are_pairs old) = subst (λ l. IsTrue (are_pairs l)) (sym c.self.view_is) c.requires in
    let known = not_false (pairs_contain old c.args.key) (sym c.in_ok-put_in.ensures.more ∙ c.if-branch.false) in
    let put = ap length c.in_ok-put_in.ensures.ok ∙ put_length old c.args.key c.args.value sorted in
    c.self.invariant ∙ sym (put ∙ ap (λ b. cond b (length old) (length old + 1)) known)
