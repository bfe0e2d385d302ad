-- What a search from a place has found.
use Rattle.std.proofs.Common.{◌≡◌, ◌<◌, ◌≤◌, ◌⊎◌, ◌↔◌, ◌∙◌, ℕ, zero, suc, Bool, true, false, List, [], ◌∷◌, length, get_or, Some, refl, ap, sym, inl, inr, subst, arith, eq-or-lt_of_le, eqb-true}
use Rattle.std.specs.Prelude.{slice_get, ◌==◌, ◌||◌, IsTrue}
use Rattle.std.specs.List.{list_any}
use Rattle.std.proofs.lemmas.Bool.{cases_lt, eq-eqb, or_cases}
use Rattle.std.proofs.lemmas.Option.{get_or_from_slice_get, slice_get-get_or, slice_get_read, slice_get_within}
use Rattle.std.proofs.lemmas.List.{get_or_default}
use Rattle.std.proofs.lemmas.Map.Keys.{any_passes_from_place}
use Rattle.place_sets.specs.declared.place_set.PlaceSet.{PlaceSet}
use Rattle.language_model.specs.Leading.{leads, leads_back}
use Rattle.place_sets.specs.Places.{HasPlace, IsSet, Widens}
use Rattle.written_types.specs.Stepping.{steps_from, LeadsWithin}
use Rattle.place_sets.proofs.Widening.{here}
use Rattle.place_sets.proofs.Fitting.{places_fit, within_marks}
use Rattle.spl_value.proofs.Bools.{or_true as or_right}
use Rattle.spl_value.proofs.Lists.{get_below}

-- ---- what passes a test in a list

-- one that passes
record Passing (p : ℕ → Bool) (xs : List ℕ) : Type 0 where
  pub item : ℕ
  pub stands : HasPlace xs item
  pub passes : p item ≡ true

passing : (p : ℕ → Bool) (xs : List ℕ) → list_any p xs ≡ true → Passing p xs
passing p [] any = absurd cc
passing p (x ∷ xs) any = elim (or_cases (p x) (list_any p xs) any) [
  | inl t ↦ record { item = x; stands = here (x ∷ xs) 0 x refl; passes = t }
  | inr h ↦ let q = passing p xs h in record { item = q.item; stands = here (x ∷ xs) (suc q.stands.at) q.item q.stands.is; passes = q.passes }
]

-- ---- steps

module _ (steps : ℕ → List ℕ) where
  -- what leads on by the first step
  by_step : (count from via to : ℕ) → HasPlace (steps from) via → ((via == to) || leads count steps via to) ≡ true → leads (suc count) steps from to ≡ true
  by_step count from via to st on = any_passes_from_place (λ n. (n == to) || leads count steps n to) (steps from) st.at via st.is on

  pub one_step : (count from to : ℕ) → HasPlace (steps from) to → leads (suc count) steps from to ≡ true
  one_step count from to st = by_step count from to to st (ap (λ b. b || leads count steps to to) (eq-eqb to to refl))

  then_leads : (count from via to : ℕ) → HasPlace (steps from) via → leads count steps via to ≡ true → leads (suc count) steps from to ≡ true
  then_leads count from via to st on = by_step count from via to st (ap (λ b. (via == to) || b) on ∙ or_right (via == to))

  -- the first step of those that lead on
  record First (count from to : ℕ) : Type 0 where
    pub via : ℕ
    pub stands : HasPlace (steps from) via
    pub on : (via ≡ to) ⊎ (leads count steps via to ≡ true)

  first : (count from to : ℕ) → leads (suc count) steps from to ≡ true → First count from to
  first count from to l =
      let q = passing (λ n. (n == to) || leads count steps n to) (steps from) l in
      record {
        via = q.item;
        stands = q.stands;
        on = elim (or_cases (q.item == to) (leads count steps q.item to) q.passes) [ inl e ↦ inl (eqb-true q.item to e) | inr h ↦ inr h ];
      }

  one_more : (count from to : ℕ) → leads count steps from to ≡ true → leads (suc count) steps from to ≡ true
  one_more zero from to l = absurd cc
  one_more (suc count) from to l =
      let f = first count from to l in
      elim f.on [
        | inl e ↦ one_step (suc count) from to (subst (λ n. HasPlace (steps from) n) e f.stands)
        | inr h ↦ then_leads (suc count) from f.via to f.stands (one_more count f.via to h)
      ]

  -- so it does where more steps are allowed
  pub at_most : (few many from to : ℕ) → few ≤ many → leads few steps from to ≡ true → leads many steps from to ≡ true
  at_most few zero from to h l = let none : few ≡ 0 = omega arith in subst (λ n. leads n steps from to ≡ true) none l
  at_most few (suc many) from to h l = elim (eq-or-lt_of_le h) [
    | inl same ↦ subst (λ n. leads n steps from to ≡ true) same l
    | inr less ↦ one_more many from to (at_most few many from to (omega arith) l)
  ]

  -- one step after the others
  pub then_step : (count from via to : ℕ) → leads count steps from via ≡ true → HasPlace (steps via) to → leads (suc count) steps from to ≡ true
  then_step zero from via to l st = absurd cc
  then_step (suc count) from via to l st =
      let f = first count from via l in
      elim f.on [
        | inl e ↦ then_leads (suc count) from f.via to f.stands (one_step count f.via to (subst (λ n. HasPlace (steps n) to) (sym e) st))
        | inr h ↦ then_leads (suc count) from f.via to f.stands (then_step count f.via via to h st)
      ]

  -- what has all that its places lead to has all that is led to from there
  pub stays : (places : List ℕ) → ((via to : ℕ) → HasPlace places via → HasPlace (steps via) to → HasPlace places to)
      → (count from to : ℕ) → ((i : ℕ) → HasPlace (steps from) i → HasPlace places i) → leads count steps from to ≡ true → HasPlace places to
  stays places closed zero from to begun l = absurd cc
  stays places closed (suc count) from to begun l =
      let f = first count from to l in
      let there : HasPlace places f.via = begun f.via f.stands in
      elim f.on [
        | inl e ↦ subst (λ n. HasPlace places n) e there
        | inr h ↦ stays places closed count f.via to (λ i st. closed f.via i there st) h
      ]

-- what is read at a place of a list
pub read_at : {A : Type 0} (xs : List A) (n : ℕ) (x y : A) → n < length xs → x ≡ get_or xs n x → y ≡ x → slice_get xs n ≡ Some y
read_at xs n x y below at same = slice_get_read xs (length xs) n y refl below (same ∙ at ∙ get_or_default xs n x y below)

-- ---- the search

-- each place found is led to in as many steps as there are places up to it; what the first `told` lead to is found too
pub record Searched (next : List (List ℕ)) (from : ℕ) (found : PlaceSet) (told : ℕ) : Type 0 where
  pub set : IsSet found
  pub size : length found.marks.items ≡ length next
  pub led : (k i : ℕ) → slice_get found.places.items k ≡ Some i → leads (suc k) (steps_from next) from i ≡ true
  pub begun : (i : ℕ) → HasPlace (steps_from next from) i → HasPlace found.places.items i
  pub told_on : (k via i : ℕ) → k < told → slice_get found.places.items k ≡ Some via → HasPlace (steps_from next via) i → HasPlace found.places.items i

module _ (next : List (List ℕ)) where
  row_of : (place : ℕ) (row : List ℕ) → slice_get next place ≡ Some row → steps_from next place ≡ row
  row_of place row e = get_or_from_slice_get next place row [] e

  -- each of a row has a row
  pub row_within : LeadsWithin next → (place : ℕ) (row : List ℕ) → slice_get next place ≡ Some row → (i : ℕ) → HasPlace row i → i < length next
  row_within within place row e i st =
      let below : place < length next = slice_get_within next place row e in
      let at : st.at < length row = slice_get_within row st.at i st.is in
      let same : steps_from next place ≡ row = row_of place row e in
      let less : get_or row st.at i < length next = subst (λ r. get_or r st.at i < length next) same (within place [] below st.at i (subst (λ r. st.at < length r) (sym same) at)) in
      let here_is : Some (get_or row st.at i) ≡ Some i = sym (slice_get-get_or row st.at i at) ∙ st.is in
      let item : get_or row st.at i ≡ i = cc in
      subst (λ n. n < length next) item less

  pub first_found : (from : ℕ) (row : List ℕ) (s t : PlaceSet) → slice_get next from ≡ Some row
      → s.places.items ≡ [] → length s.marks.items ≡ length next → Widens s t row → Searched next from t 0
  first_found from row s t e empty size w =
      let steps : steps_from next from ≡ row = row_of from row e in
      record {
        set = w.set;
        size = w.size ∙ size;
        led = λ k i f. elim (w.only i (here t.places.items k i f)) [
          | inl h ↦ let g = h.is in absurd (omega (arith, slice_get_within s.places.items h.at i h.is, ap length empty))
          | inr h ↦ at_most (steps_from next) 1 (suc k) from i (omega arith) (one_step (steps_from next) 0 from i (subst (λ r. HasPlace r i) (sym steps) h))
        ];
        begun = λ i st. w.came i (subst (λ r. HasPlace r i) steps st);
        told_on = λ k via i below. absurd (omega arith);
      }

  module _ (from : ℕ) (s t : PlaceSet) (n via : ℕ) (row : List ℕ) (at_n : slice_get s.places.items n ≡ Some via) (at_via : slice_get next via ≡ Some row)
      (searched : Searched next from s n) (w : Widens s t row) where
    row_is : steps_from next via ≡ row
    row_is = row_of via row at_via

    count : n < length s.places.items
    count = slice_get_within s.places.items n via at_n

    -- those that stood in front stand there
    still : (k i : ℕ) → k < length s.places.items → slice_get t.places.items k ≡ Some i → slice_get s.places.items k ≡ Some i
    still k i below e =
        let x = get_below s.places.items k below in
        let f = w.kept k x.0 x.1 in
        let same : x.0 ≡ i = cc in
        x.1 ∙ ap Some same

    stays_found : (i : ℕ) → HasPlace s.places.items i → HasPlace t.places.items i
    stays_found i st = here t.places.items st.at i (w.kept st.at i st.is)

    led_behind : (k i : ℕ) → length s.places.items ≤ k → slice_get t.places.items k ≡ Some i → leads (suc k) (steps_from next) from i ≡ true
    led_behind k i behind e = elim (w.only i (here t.places.items k i e)) [
      | inl st ↦
          let front : st.at < length s.places.items = slice_get_within s.places.items st.at i st.is in
          at_most (steps_from next) (suc st.at) (suc k) from i (omega arith) (searched.led st.at i st.is)
      | inr st ↦
          let c = count in
          at_most (steps_from next) (suc (suc n)) (suc k) from i (omega arith)
          (then_step (steps_from next) (suc n) from via i (searched.led n via at_n) (subst (λ r. HasPlace r i) (sym row_is) st))
    ]

    all_led : (k i : ℕ) → slice_get t.places.items k ≡ Some i → leads (suc k) (steps_from next) from i ≡ true
    all_led k i e = elim (cases_lt k (length s.places.items)) [
      | inl front ↦ searched.led k i (still k i front e)
      | inr behind ↦ led_behind k i behind e
    ]

    all_told : (k j i : ℕ) → k < suc n → slice_get t.places.items k ≡ Some j → HasPlace (steps_from next j) i → HasPlace t.places.items i
    all_told k j i below e st =
        let c = count in
        let before : slice_get s.places.items k ≡ Some j = still k j (omega arith) e in
        elim (cases_lt k n) [
          | inl less ↦ stays_found i (searched.told_on k j i less before st)
          | inr past ↦
              let same : k ≡ n = omega arith in
              let both : Some j ≡ Some via = sym before ∙ ap (λ m. slice_get s.places.items m) same ∙ at_n in
              let one : j ≡ via = cc in
              w.came i (subst (λ r. HasPlace r i) row_is (subst (λ m. HasPlace (steps_from next m) i) one st))
        ]

    pub more_found : Searched next from t (suc n)
    more_found = record {
      set = w.set;
      size = w.size ∙ searched.size;
      led = all_led;
      begun = λ i st. stays_found i (searched.begun i st);
      told_on = all_told;
    }

  pub found_below : (from : ℕ) (s : PlaceSet) (n k i : ℕ) → Searched next from s n → slice_get s.places.items k ≡ Some i → i < length next
  found_below from s n k i h e = subst (λ m. i < m) h.size (within_marks s h.set i (here s.places.items k i e))

  -- ---- the answer

  pub is_found : (place : ℕ) (s : PlaceSet) (n : ℕ) → Searched next place s n → slice_get s.marks.items place ≡ Some true → leads_back (length next) (steps_from next) place ≡ true
  is_found place s n h marked =
      let st = h.set.standing place marked in
      let at : st.at < length s.places.items = slice_get_within s.places.items st.at place st.is in
      let fit = places_fit s h.set in
      let size = h.size in
      at_most (steps_from next) (suc st.at) (length next) place place (omega arith) (h.led st.at place st.is)

  is_found_at_last : (place : ℕ) (s : PlaceSet) (n : ℕ) → length s.places.items ≤ n → Searched next place s n
      → leads_back (length next) (steps_from next) place ≡ true → slice_get s.marks.items place ≡ Some true
  is_found_at_last place s n past h l =
      h.set.marked place (stays (steps_from next) s.places.items
      (λ via to there st. h.told_on there.at via to (omega (arith, slice_get_within s.places.items there.at via there.is)) there.is st) (length next) place place h.begun l)

  -- at the end it is found where it leads back
  pub tells : (place : ℕ) (s : PlaceSet) (n : ℕ) → length s.places.items ≤ n → Searched next place s n → (found : Bool)
      → (IsTrue found ↔ (slice_get s.marks.items place ≡ Some true)) → found ≡ leads_back (length next) (steps_from next) place
  tells place s n past h true is = sym (is_found place s n h (is.0 refl))
  tells place s n past h false is = not_found (leads_back (length next) (steps_from next) place) refl
    where
      not_found : (b : Bool) → leads_back (length next) (steps_from next) place ≡ b → false ≡ leads_back (length next) (steps_from next) place
      not_found true e = is.1 (is_found_at_last place s n past h e) ∙ sym e
      not_found false e = sym e
