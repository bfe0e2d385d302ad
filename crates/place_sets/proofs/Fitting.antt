-- A set has no more places than its bound.
use Rattle.std.proofs.Common.{◌≡◌, ◌<◌, ◌≤◌, ◌∙◌, ℕ, true, false, List, length, get_or, Some, ap, sym, arith, ne_eqb, eqb-true}
use Rattle.std.proofs.Math.Dec.{eqb}
use Rattle.std.specs.Prelude.{slice_get}
use Rattle.std.proofs.lemmas.Option.{slice_get-get_or}
use Rattle.std.proofs.lemmas.Map.Steps.{length-le_from_distinct_below}
use Rattle.std.proofs.lemmas.Map.Keys.{IsDistinct-from_apart}
use Rattle.std.proofs.lemmas.Map.Views.{Contains-from_any}
use Rattle.place_sets.specs.declared.place_set.PlaceSet.{PlaceSet}
use Rattle.place_sets.specs.Places.{HasPlace, IsSet}
use Rattle.place_sets.proofs.Widening.{here}
use Rattle.spl_value.proofs.Lists.{get_within}

pub within_marks : (s : PlaceSet) → IsSet s → (i : ℕ) → HasPlace s.places.items i → i < length s.marks.items
within_marks s h i st = get_within s.marks.items i true (h.marked i st)

-- numbers below a bound, none twice, are no more than the bound
pub no_more : (xs : List ℕ) (n : ℕ) → ((k m i : ℕ) → slice_get xs k ≡ Some i → slice_get xs m ≡ Some i → k ≡ m) → ((i : ℕ) → HasPlace xs i → i < n) → length xs ≤ n
no_more xs n once within =
    let apart : (i j d : ℕ) → i < j → j < length xs → eqb (get_or xs i d) (get_or xs j d) ≡ false =
    λ i j d below last.
    let at_i : slice_get xs i ≡ Some (get_or xs i d) = slice_get-get_or xs i d (omega arith) in
    let at_j : slice_get xs j ≡ Some (get_or xs j d) = slice_get-get_or xs j d last in
    ne_eqb _ _ (λ same. let k : i ≡ j = once i j (get_or xs i d) at_i (at_j ∙ ap Some (sym same)) in absurd (omega arith)) in
    length-le_from_distinct_below xs n (IsDistinct-from_apart eqb xs apart)
    (λ q any. let k = Contains-from_any {eq = eqb} eqb-true q xs any in within q (here xs k.0 q (slice_get-get_or xs k.0 q k.1 ∙ ap Some k.2)))

pub places_fit : (s : PlaceSet) → IsSet s → length s.places.items ≤ length s.marks.items
places_fit s h = no_more s.places.items (length s.marks.items) h.once (within_marks s h)
