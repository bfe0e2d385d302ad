-- What a search over lists has found.
use Rattle.std.proofs.Common.{◌≡◌, ◌<◌, ◌≤◌, ◌↔◌, ◌∙◌, ℕ, suc, List, [], length, Some, ap, inl, inr, subst, arith}
use Rattle.std.specs.Prelude.{slice_get}
use Rattle.place_sets.specs.declared.place_set.PlaceSet.{PlaceSet}
use Rattle.place_sets.specs.Places.{HasPlace, IsSet, Widens}
use Rattle.cycle_rules.specs.steps.Callers.{Lists, Reached, near, far}
use Rattle.place_sets.proofs.Widening.{here}
use Rattle.place_sets.proofs.Fitting.{within_marks}
use Rattle.cycle_rules.proofs.Calling.{lt_split}
use Rattle.spl_value.proofs.Lists.{get_below, get_within}

-- what the lists of the first `told` places that were found lead to is found too
pub record Searched (lists : List (List ℕ)) (from : ℕ) (found : PlaceSet) (told : ℕ) : Type 0 where
  pub set : IsSet found
  pub size : length found.marks.items ≡ length lists
  pub sound : (i : ℕ) → HasPlace found.places.items i → Reached lists from i
  pub begun : (i : ℕ) → Lists lists from i → HasPlace found.places.items i
  pub told_on : (k j i : ℕ) → k < told → slice_get found.places.items k ≡ Some j → Lists lists j i → HasPlace found.places.items i

same_list : (lists : List (List ℕ)) (at of : ℕ) (list : List ℕ) → slice_get lists at ≡ Some list → Lists lists at of → HasPlace list of
same_list lists at of list e h =
    let same : h.list ≡ list = let p = h.at_place in cc in
    subst (λ l. HasPlace l of) same h.stands

pub first_found : (lists : List (List ℕ)) (from : ℕ) (list : List ℕ) (s t : PlaceSet) → slice_get lists from ≡ Some list
    → s.places.items ≡ [] → length s.marks.items ≡ length lists → Widens s t list → Searched lists from t 0
first_found lists from list s t e empty size w = record {
  set = w.set;
  size = w.size ∙ size;
  sound = λ i st. elim (w.only i st) [
    | inl h ↦ let f = h.is in absurd (omega (arith, get_within s.places.items h.at i h.is, ap length empty))
    | inr h ↦ near i (record { list = list; at_place = e; stands = h })
  ];
  begun = λ i h. w.came i (same_list lists from i list e h);
  told_on = λ k j i below. absurd (omega arith);
}

still : (s t : PlaceSet) (ps : List ℕ) → Widens s t ps → (k j : ℕ) → k < length s.places.items → slice_get t.places.items k ≡ Some j → slice_get s.places.items k ≡ Some j
still s t ps w k j below e =
    let x = get_below s.places.items k below in
    let f = w.kept k x.0 x.1 in
    let same : x.0 ≡ j = cc in
    x.1 ∙ ap Some same

pub more_found : (lists : List (List ℕ)) (from : ℕ) (s t : PlaceSet) (n j : ℕ) (list : List ℕ) → slice_get s.places.items n ≡ Some j → slice_get lists j ≡ Some list
    → Searched lists from s n → Widens s t list → Searched lists from t (suc n)
more_found lists from s t n j list at_n at_j h w = record {
  set = w.set;
  size = w.size ∙ h.size;
  sound = λ i st. elim (w.only i st) [
    | inl g ↦ h.sound i g
    | inr g ↦ far j i (h.sound j (here s.places.items n j at_n)) (record { list = list; at_place = at_j; stands = g })
  ];
  begun = λ i l. let g = h.begun i l in here t.places.items g.at i (w.kept g.at i g.is);
  told_on = λ k m i below e l.
      let bound = get_within s.places.items n j at_n in
      elim (lt_split k n below) [
        | inl b ↦ let g = h.told_on k m i b (still s t list w k m (omega arith) e) l in here t.places.items g.at i (w.kept g.at i g.is)
        | inr b ↦
            let at_m : slice_get s.places.items k ≡ Some m = still s t list w k m (omega arith) e in
            let same : m ≡ j = let p : slice_get s.places.items k ≡ slice_get s.places.items n = ap (λ x. slice_get s.places.items x) b in cc in
            w.came i (same_list lists j i list at_j (subst (λ x. Lists lists x i) same l))
      ];
}

all_reached : (lists : List (List ℕ)) (from : ℕ) (s : PlaceSet) (n : ℕ) → length s.places.items ≤ n → Searched lists from s n
    → (i : ℕ) → Reached lists from i → HasPlace s.places.items i
all_reached lists from s n past h i (near i' l) = h.begun i l
all_reached lists from s n past h i (far j i' r l) =
    let g = all_reached lists from s n past h j r in
    h.told_on g.at j i (omega (arith, get_within s.places.items g.at j g.is)) g.is l

pub all_found : (lists : List (List ℕ)) (from : ℕ) (s : PlaceSet) (n : ℕ) → length s.places.items ≤ n → Searched lists from s n
    → (i : ℕ) → HasPlace s.places.items i ↔ Reached lists from i
all_found lists from s n past h i = (h.sound i, all_reached lists from s n past h i)

pub found_below : (lists : List (List ℕ)) (from : ℕ) (s : PlaceSet) (n k i : ℕ) → slice_get s.places.items k ≡ Some i → Searched lists from s n → i < length lists
found_below lists from s n k i e h = let b = within_marks s h.set i (here s.places.items k i e) in subst (λ m. i < m) h.size b
