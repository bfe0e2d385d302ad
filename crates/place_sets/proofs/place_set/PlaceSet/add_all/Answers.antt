use Rattle.std.proofs.Common.{◌≡◌, ◌<◌, Some, get_or, add-one, sym, subst}
use Rattle.std.specs.Prelude.{slice_get}
use Rattle.std.proofs.lemmas.Option.{slice_get-get_or}
use Rattle.place_sets.proofs.Widening.{widens_more, here}
use Rattle.place_sets.proofs.place_set.PlaceSet.add_all.Goals as goal

pub add-requires-clause-below : goal.add-requires-clause-below
add-requires-clause-below c =
    let p = get_or c.args.places.now c.loop-place.place-index 0 in
    let at : slice_get c.args.places.now c.loop-place.place-index ≡ Some p = slice_get-get_or c.args.places.now c.loop-place.place-index 0 c.loop-place-test.true in
    subst (λ n. p < n) (sym c.loop-place.invariant.size) (c.requires.below p (here c.args.places.now c.loop-place.place-index p at))

pub loop-place-preserved : goal.loop-place-preserved
loop-place-preserved c =
    rw add-one (widens_more _ c.loop-place.self _ c.loop-place.place-index c.args.places.now _ (slice_get-get_or c.args.places.now c.loop-place.place-index 0 c.loop-place-test.true) c.loop-place.invariant c.in_ok-add.ensures)
