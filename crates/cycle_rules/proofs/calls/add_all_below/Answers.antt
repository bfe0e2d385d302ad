use Rattle.std.proofs.Common.{below_more, sym, subst}
use Rattle.place_sets.specs.Places.{HasPlace}
use Rattle.place_sets.proofs.Widening.{stands_more, stands_last}
use Rattle.cycle_rules.proofs.calls.add_all_below.Goals as goal

pub loop-place-preserved : goal.loop-place-preserved
loop-place-preserved c =
    let q = sym c.in_ok-push.ensures.items in
    below_more _ _ (λ i h. subst (λ xs. HasPlace xs i) q (stands_more c.loop-place.places.items c.loop-place.place i (c.loop-place.invariant i h)))
    (subst (λ xs. HasPlace xs c.loop-place.place) q (stands_last c.loop-place.places.items c.loop-place.place))
