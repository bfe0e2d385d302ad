use Rattle.std.proofs.Common.{arith, length, sym, ◌∙◌, ◌<◌}
use Rattle.spl_value.proofs.HashSteps.{place_holds, hash_chosen, hash_passed}
use Rattle.spl_value.proofs.key.hash_key.Goals as goal
use Rattle.spl_value.proofs.key.hash_key.Goals.{then-has_place, else-has_place}

pub hash_value-state-requires : goal.hash_value-state-requires
hash_value-state-requires c =
    let within : c.loop-place.place < length c.as_slice-values.result.now = omega arith in
    place_holds _ _ _ _ c.loop-place.invariant.places (sym c.if-has_place.ensures) within c.index-values-place.is

pub loop-place-preserved : goal.loop-place-preserved
loop-place-preserved c =
    let within : c.loop-place.place < length c.as_slice-values.result.now = omega arith in
    record {
      places = c.loop-place.invariant.places;
      hash = elim c.if-has_place.branch [
        | then-has_place w ↦ hash_chosen _ _ _ _ _ _ (sym c.has_place.ensures ∙ w.if-has_place.true) within c.index-values-place.is c.loop-place.invariant.hash (w.state-is ∙ w.hash_value-state.ensures)
        | else-has_place w ↦ w.state-is ∙ hash_passed _ _ _ _ (sym c.has_place.ensures ∙ w.if-has_place.false) within c.loop-place.invariant.hash
      ];
    }
