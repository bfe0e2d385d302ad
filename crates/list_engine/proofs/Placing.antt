-- Lists placed in a table, one after the other.
use Rattle.std.proofs.Common.{◌≡◌, ℕ, ◌<◌, ◌≤◌, ◌==◌, true, false, List, [], ◌∷◌, ◌++◌, append_assoc, append-nil, refl, sym, ap, subst, ◌∙◌, length, length-append, get_or, slice_get, Some, inl, inr, arith}
use Rattle.std.specs.Prelude.{slice_set}
use Rattle.std.specs.List.{Contains, list_any}
use Rattle.std.proofs.lemmas.Bool.{eq-eqb, or_parts}
use Rattle.std.proofs.lemmas.List.{nil_from_length}
use Rattle.std.proofs.lemmas.List.Folds.{list_any-append}
use Rattle.std.proofs.lemmas.List.Elements.{Contains-append_right}
use Rattle.std.proofs.lemmas.Option.{slice_get_within}
use Rattle.spl_value.specs.declared.item.Item.{Item}
use Rattle.language_model.specs.Keeping.{Once}
use Rattle.spl_value.proofs.Lists.{append_cases, append_front, contains_here, get_set_same}
use Rattle.list_engine.specs.steps.Table.{IsPlaced}
use Rattle.list_engine.proofs.Gathering.{first_and_rest}
use Rattle.list_engine.proofs.Places.{get_set_other, set_length}

-- a front of the lists is placed, at a front of the places
pub record PlacedSoFar (lists : List (List Item)) (places : List ℕ) (left : List (List Item)) (rest : List ℕ) (old table : List (List Item)) : Type 0 where
  pub front : List (List Item)
  pub seen : List ℕ
  pub split : lists ≡ front ++ left
  pub places_split : places ≡ seen ++ rest
  pub same : length front ≡ length seen
  pub placed : IsPlaced front seen old table

pub placed_first : (lists : List (List Item)) (places : List ℕ) (left : List (List Item)) (rest : List ℕ) (table : List (List Item)) → left ≡ lists → rest ≡ places
    → PlacedSoFar lists places left rest table table
placed_first lists places left rest table e f = record {
  front = [];
  seen = [];
  split = sym e;
  places_split = sym f;
  same = refl;
  placed = record { count = refl; placed = λ p s items at has. absurd (no_place p s at); others = λ s other. refl };
}
  where
    no_place : (p s : ℕ) → slice_get [] p ≡ Some s → ⊥
    no_place p s at = cc

-- a place is left for each list that is left
pub place_left : (lists : List (List Item)) (places : List ℕ) (left : List (List Item)) (rest : List ℕ) (old table : List (List Item)) → PlacedSoFar lists places left rest old table
    → length lists ≡ length places → length left ≡ length rest
place_left lists places left rest old table h many =
    let first = ap length h.split ∙ length-append h.front left in
    let second = ap length h.places_split ∙ length-append h.seen rest in
    let same = h.same in
    omega (arith, first, second, same, many)

not_among : (seen : List ℕ) (place : ℕ) (rest places : List ℕ) → Once places → places ≡ seen ++ place ∷ rest → (p s : ℕ) → slice_get seen p ≡ Some s → place ≡ s → ⊥
not_among seen place rest places once split p s at same =
    let here : slice_get places p ≡ Some s = ap (λ ps. slice_get ps p) split ∙ append_front seen (place ∷ rest) p s at in
    let there : slice_get places (length seen) ≡ Some s = ap (λ ps. slice_get ps (length seen)) split ∙ at_length seen place rest ∙ ap (λ x. Some x) same in
    let clash : p ≡ length seen = once p (length seen) s here there in
    let within : p < length seen = slice_get_within seen p s at in
    omega (arith, clash, within)
  where
    at_length : (xs : List ℕ) (y : ℕ) (ys : List ℕ) → slice_get (xs ++ y ∷ ys) (length xs) ≡ Some y
    at_length [] y ys = refl
    at_length (x ∷ xs) y ys = at_length xs y ys

pub placed_next : (lists : List (List Item)) (places : List ℕ) (left later : List (List Item)) (rest behind : List ℕ) (items : List Item) (place : ℕ) (old table new : List (List Item))
    → PlacedSoFar lists places left rest old table → Once places → left ≡ items ∷ later → rest ≡ place ∷ behind → place < length table → new ≡ slice_set table place items
    → PlacedSoFar lists places later behind old new
placed_next lists places left later rest behind items place old table new h once e f within made = record {
  front = h.front ++ items ∷ [];
  seen = h.seen ++ place ∷ [];
  split = h.split ∙ ap (λ ls. h.front ++ ls) e ∙ sym (append_assoc h.front (items ∷ []) later);
  places_split = whole ∙ sym (append_assoc h.seen (place ∷ []) behind);
  same = (let a = length-append h.front (items ∷ []) in let b = length-append h.seen (place ∷ []) in let was = h.same in omega (arith, a, b, was));
  placed = record {
    count = ap length made ∙ set_length table place items ∙ h.placed.count;
    placed = λ p s xs at has. elim (append_cases h.seen place p s at) [
      | inl earlier ↦ ap (λ t. slice_get t s) made ∙ get_set_other table place s items (not_among h.seen place behind places once whole p s earlier)
          ∙ h.placed.placed p s xs earlier (earlier_list p s xs earlier has)
      | inr last ↦ (
          let same : place ≡ s = last.1 in
          let own : items ≡ xs = last_list p xs last.0 has in
          ap (λ t. slice_get t s) made ∙ ap (slice_get (slice_set table place items)) (sym same) ∙ get_set_same table place items within ∙ ap (λ ys. Some ys) own)
    ];
    others = λ s other. (
        let parts = or_parts (list_any (λ n. n == s) h.seen) (list_any (λ n. n == s) (place ∷ [])) (sym (list_any-append (λ n. n == s) h.seen (place ∷ [])) ∙ other) in
        let own = or_parts (place == s) false parts.1 in
        ap (λ t. slice_get t s) made
        ∙ get_set_other table place s items (λ same. (let clash : true ≡ false = sym (eq-eqb place s same) ∙ own.0 in cc)) ∙ h.placed.others s parts.0);
  };
}
  where
    whole : places ≡ h.seen ++ place ∷ behind
    whole = h.places_split ∙ ap (λ ps. h.seen ++ ps) f

    earlier_list : (p s : ℕ) (xs : List Item) → slice_get h.seen p ≡ Some s → slice_get (h.front ++ items ∷ []) p ≡ Some xs → slice_get h.front p ≡ Some xs
    earlier_list p s xs at has = elim (append_cases h.front items p xs has) [
      | inl there ↦ there
      | inr past ↦ absurd (let within : p < length h.seen = slice_get_within h.seen p s at in let same = h.same in let e = past.0 in omega (arith, within, same, e))
    ]

    last_list : (p : ℕ) (xs : List Item) → p ≡ length h.seen → slice_get (h.front ++ items ∷ []) p ≡ Some xs → items ≡ xs
    last_list p xs at has = elim (append_cases h.front items p xs has) [
      | inl there ↦ absurd (let within : p < length h.front = slice_get_within h.front p xs there in let same = h.same in omega (arith, within, same, at))
      | inr last ↦ last.1
    ]

pub placed_all : (lists : List (List Item)) (places : List ℕ) (left : List (List Item)) (rest : List ℕ) (old table : List (List Item)) → PlacedSoFar lists places left rest old table
    → length lists ≡ length places → left ≡ [] → IsPlaced lists places old table
placed_all lists places left rest old table h many none =
    let nothing : rest ≡ [] = nil_from_length rest (let same = place_left lists places left rest old table h many in let zero_left = ap length none in omega (arith, same, zero_left)) in
    let all : h.front ≡ lists = sym (h.split ∙ ap (λ ls. h.front ++ ls) none ∙ append-nil h.front) in
    let every : h.seen ≡ places = sym (h.places_split ∙ ap (λ ps. h.seen ++ ps) nothing ∙ append-nil h.seen) in
    subst (λ ls. IsPlaced ls places old table) all (subst (λ ps. IsPlaced h.front ps old table) every h.placed)

-- the next place is in the table
pub next_within : (lists : List (List Item)) (places : List ℕ) (left : List (List Item)) (rest : List ℕ) (old table : List (List Item)) → PlacedSoFar lists places left rest old table
    → 1 ≤ length rest → ((s : ℕ) → Contains places s → s < length old) → get_or rest 0 0 < length table
next_within lists places left rest old table h some there =
    subst (λ l. get_or rest 0 0 < l) (sym h.placed.count)
    (there (get_or rest 0 0) (subst (λ ss. Contains ss (get_or rest 0 0)) (sym (h.places_split ∙ ap (λ ss. h.seen ++ ss) (first_and_rest rest some)))
    (Contains-append_right h.seen _ (get_or rest 0 0) (contains_here (get_or rest 0 0) _))))
