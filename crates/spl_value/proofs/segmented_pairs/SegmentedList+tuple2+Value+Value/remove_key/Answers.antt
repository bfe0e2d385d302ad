use Rattle.std.proofs.Common.{ap, sym, subst, ◌∙◌, ◌≡◌, ◌+◌, length, cond, arith}
use Rattle.std.specs.Prelude.{IsTrue, is_some}
use Rattle.spl_value.specs.Flattened.{flattened}
use Rattle.spl_value.specs.Pairs.{are_pairs, pairs_without}
use Rattle.spl_value.proofs.SegmentLaws.{without_length}
use Rattle.spl_value.proofs.segmented_pairs.SegmentedList+tuple2+Value+Value.remove_key.Goals as goal

pub invariant_of-self : goal.invariant_of-self
invariant_of-self c =
    let old = flattened c.self.inside.segments in
    let sorted : IsTrue (are_pairs old) = subst (λ l. IsTrue (are_pairs l)) (sym c.self.view_is) c.requires in
    let left = length (pairs_without old c.args.key.now) in
    let held = sym (ap is_some c.remove_in-value.ensures.value) ∙ sym c.is_some.ensures ∙ c.if-is_some.true in
    let less : 1 + left ≡ length old =
    sym (ap (λ b. cond b 1 0 + left) held) ∙ without_length old c.args.key.now sorted in
    let now : length (flattened c.remove_in-value.new.segments) ≡ left = ap length c.remove_in-value.ensures.others in
    let was : c.self.inside.len ≡ length old = c.self.invariant in
    omega (arith, less, now, was)

pub invariant_of-self-else-is_some : goal.invariant_of-self-else-is_some
invariant_of-self-else-is_some c =
    let old = flattened c.self.inside.segments in
    let sorted : IsTrue (are_pairs old) = subst (λ l. IsTrue (are_pairs l)) (sym c.self.view_is) c.requires in
    let left = length (pairs_without old c.args.key.now) in
    let held = sym (ap is_some c.remove_in-value.ensures.value) ∙ sym c.is_some.ensures ∙ c.if-is_some.false in
    let less : 0 + left ≡ length old =
    sym (ap (λ b. cond b 1 0 + left) held) ∙ without_length old c.args.key.now sorted in
    let now : length (flattened c.remove_in-value.new.segments) ≡ left = ap length c.remove_in-value.ensures.others in
    let was : c.self.inside.len ≡ length old = c.self.invariant in
    omega (arith, less, now, was)
