use Rattle.std.proofs.Common.{◌≡◌, ◌⊎◌, inl, ap, sym, subst, ◌∙◌}
use Rattle.std.specs.Prelude.{IsTrue}
use Rattle.spl_value.specs.Flattened.{flattened}
use Rattle.spl_value.specs.Pairs.{are_pairs, pairs_get, pairs_put}
use Rattle.spl_value.specs.steps.Segments.{IsInSegment}
use Rattle.spl_value.proofs.SegmentLaws.{lent_many, lent_put, lent_value}
use Rattle.spl_value.proofs.segmented_pairs.SegmentedList+tuple2+Value+Value.find_mut.Goals as goal

-- a loan under the same name that ends in the same way
same_end : {N F X : Type 0} (n : N) (f g : F) → f ≡ g → ◌≡◌ {A = (N × F) ⊎ X} (inl (n, f)) (inl (n, g))
same_end n f g e = λ i. inl (n, e i)

pub invariant_of-self-lent : goal.invariant_of-self-lent
invariant_of-self-lent c =
    let k = c.args.key.now in
    let all = c.self.inside.segments in
    let at = c.in-Some.at in
    let i = c.in-Some.place in
    let stands = subst (λ l. IsInSegment k l at i) c.as_slice.ensures c.in-Some.ensures in
    let own = c.item_mut-segment.result.now in
    let there = c.item_mut-segment.ensures.item in
    let pair = c.item_mut-pair.result.now in
    λ w. c.self.invariant ∙ lent_many k all at i stands own there pair c.item_mut-pair.ensures.item w

pub returns-in-Some : goal.returns-in-Some
returns-in-Some c =
    let k = c.args.key.now in
    let all = c.self.inside.segments in
    let at = c.in-Some.at in
    let i = c.in-Some.place in
    let own = c.item_mut-segment.result.now in
    let there = c.item_mut-segment.ensures.item in
    let pair = c.item_mut-pair.result.now in
    let placed = c.item_mut-pair.ensures.item in
    let stands = subst (λ l. IsInSegment k l at i) c.as_slice.ensures c.in-Some.ensures in
    let sorted : IsTrue (are_pairs (flattened all)) =
    subst (λ l. IsTrue (are_pairs l)) (sym c.self.view_is) c.requires in
    let put = lent_put k all at i stands own there pair placed sorted in (
      same_end _ _ _ (λ n z. (put z ∙ ap (λ l. pairs_put l k z) c.self.view_is) n),
      record {
        writes_back = tt;
        value = lent_value k all at i stands own there pair placed sorted ∙ ap (λ l. pairs_get l k) c.self.view_is;
      },
    )
