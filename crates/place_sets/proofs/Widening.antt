-- How sets of places grow.
use Rattle.std.proofs.Common.{◌≡◌, ◌<◌, ◌⊎◌, ◌∙◌, ℕ, suc, Bool, true, List, [], ◌∷◌, ◌++◌, length, take, set, Some, refl, ap, sym, inl, inr, length-set}
use Rattle.std.specs.Prelude.{slice_get}
use Rattle.place_sets.specs.declared.place_set.PlaceSet.{PlaceSet}
use Rattle.place_sets.specs.Places.{HasPlace, IsSet, Widens}
use Rattle.spl_value.proofs.Lists.{append_cases, append_front, append_last, only_one, set_cases, set_elsewhere, set_here, take_cases, take_last, take_more}

abbrev pub here : (xs : List ℕ) (k i : ℕ) → slice_get xs k ≡ Some i → HasPlace xs i
here xs k i e = record { at = k; is = e }

module _ (marks new_marks : List Bool) (places new_places : List ℕ) (p : ℕ)
    (marked : (i : ℕ) → HasPlace places i → slice_get marks i ≡ Some true)
    (standing : (i : ℕ) → slice_get marks i ≡ Some true → HasPlace places i)
    (other : slice_get marks p ≡ Some true → ⊥)
    (below : p < length marks)
    (marks_are : new_marks ≡ set marks p true)
    (places_are : new_places ≡ places ++ p ∷ []) where
  abbrev at_new : (k i : ℕ) → slice_get new_places k ≡ Some i → (slice_get places k ≡ Some i) ⊎ ((k ≡ length places) × (p ≡ i))
  at_new k i e = append_cases places p k i (ap (λ xs. slice_get xs k) (sym places_are) ∙ e)

  pub kept : (k i : ℕ) → slice_get places k ≡ Some i → slice_get new_places k ≡ Some i
  kept k i e = ap (λ xs. slice_get xs k) places_are ∙ append_front places (p ∷ []) k i e

  pub last : slice_get new_places (length places) ≡ Some p
  last = ap (λ xs. slice_get xs (length places)) places_are ∙ append_last places p

  pub came : (i : ℕ) → HasPlace (p ∷ []) i → HasPlace new_places i
  came i s = here new_places (length places) i (last ∙ ap Some (only_one p s.at i s.is))

  pub only : (i : ℕ) → HasPlace new_places i → HasPlace places i ⊎ HasPlace (p ∷ []) i
  only i s = elim (at_new s.at i s.is) [ inl e ↦ inl (here places s.at i e) | inr e ↦ inr (here (p ∷ []) 0 i (ap Some e.1)) ]

  now_marked : slice_get new_marks p ≡ Some true
  now_marked = ap (λ xs. slice_get xs p) marks_are ∙ set_here marks p true below

  still_marked : (i : ℕ) → slice_get marks i ≡ Some true → slice_get new_marks i ≡ Some true
  still_marked i e =
      ap (λ xs. slice_get xs i) marks_are
      ∙ set_elsewhere marks p i true (λ same. other (ap (λ n. slice_get marks n) same ∙ e)) ∙ e

  pub new_marked : (i : ℕ) → HasPlace new_places i → slice_get new_marks i ≡ Some true
  new_marked i s =
      elim (at_new s.at i s.is) [
        | inl e ↦ still_marked i (marked i (here places s.at i e))
        | inr e ↦ ap (λ n. slice_get new_marks n) (sym e.1) ∙ now_marked
      ]

  pub new_standing : (i : ℕ) → slice_get new_marks i ≡ Some true → HasPlace new_places i
  new_standing i e =
      elim (set_cases marks p i true true (ap (λ xs. slice_get xs i) (sym marks_are) ∙ e)) [
        | inl same ↦ here new_places (length places) i (last ∙ ap Some same)
        | inr before ↦ let s = standing i before in here new_places s.at i (kept s.at i s.is)
      ]

  pub new_once : ((k m i : ℕ) → slice_get places k ≡ Some i → slice_get places m ≡ Some i → k ≡ m)
      → (k m i : ℕ) → slice_get new_places k ≡ Some i → slice_get new_places m ≡ Some i → k ≡ m
  new_once once k m i e f =
      elim (at_new k i e) [
        | inl a ↦ elim (at_new m i f) [
          | inl b ↦ once k m i a b
          | inr b ↦ absurd (other (ap (λ n. slice_get marks n) b.1 ∙ marked i (here places k i a)))
        ]
        | inr a ↦ elim (at_new m i f) [
          | inl b ↦ absurd (other (ap (λ n. slice_get marks n) a.1 ∙ marked i (here places m i b)))
          | inr b ↦ a.0 ∙ sym b.0
        ]
      ]

pub widens_by : (s t : PlaceSet) (p : ℕ) → IsSet s → (slice_get s.marks.items p ≡ Some true → ⊥) → p < length s.marks.items
    → t.marks.items ≡ set s.marks.items p true → t.places.items ≡ s.places.items ++ p ∷ [] → Widens s t (p ∷ [])
widens_by s t p h other below m q =
    let a = s.marks.items in let b = t.marks.items in let x = s.places.items in let y = t.places.items in record {
      set = record {
        marked = new_marked a b x y p h.marked h.standing other below m q;
        standing = new_standing a b x y p h.marked h.standing other below m q;
        once = new_once a b x y p h.marked h.standing other below m q h.once;
      };
      size = ap length m ∙ length-set a p true;
      kept = kept a b x y p h.marked h.standing other below m q;
      came = came a b x y p h.marked h.standing other below m q;
      only = only a b x y p h.marked h.standing other below m q;
    }

pub widens_none : (s : PlaceSet) → IsSet s → Widens s s []
widens_none s h = record {
  set = h;
  size = refl;
  kept = λ k i e. e;
  came = λ i st. let e = st.is in cc;
  only = λ i st. inl st;
}

pub widens_more : (s t u : PlaceSet) (n : ℕ) (ps : List ℕ) (p : ℕ) → slice_get ps n ≡ Some p → Widens s t (take n ps) → Widens t u (p ∷ []) → Widens s u (take (suc n) ps)
widens_more s t u n ps p at_n w v = record {
  set = v.set;
  size = v.size ∙ w.size;
  kept = λ k i e. v.kept k i (w.kept k i e);
  came = λ i st. elim (take_cases n ps st.at i st.is) [
    | inl e ↦ let h = w.came i (here (take n ps) st.at i e) in here u.places.items h.at i (v.kept h.at i h.is)
    | inr e ↦ v.came i (here (p ∷ []) 0 i (sym at_n ∙ e))
  ];
  only = λ i st. elim (v.only i st) [
    | inl h ↦ elim (w.only i h) [ inl g ↦ inl g | inr g ↦ inr (here (take (suc n) ps) g.at i (take_more n ps g.at i g.is)) ]
    | inr h ↦ inr (here (take (suc n) ps) n i (take_last n ps i (at_n ∙ ap Some (only_one p h.at i h.is))))
  ];
}

-- one more at the end
pub stands_more : (xs : List ℕ) (p i : ℕ) → HasPlace xs i → HasPlace (xs ++ p ∷ []) i
stands_more xs p i s = here (xs ++ p ∷ []) s.at i (append_front xs (p ∷ []) s.at i s.is)

pub stands_last : (xs : List ℕ) (p : ℕ) → HasPlace (xs ++ p ∷ []) p
stands_last xs p = here (xs ++ p ∷ []) (length xs) p (append_last xs p)
