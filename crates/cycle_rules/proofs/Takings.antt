-- How callers are taken.
use Rattle.std.proofs.Common.{◌≡◌, ◌<◌, ◌≤◌, ◌⊎◌, ◌∙◌, ℕ, zero, suc, List, [], ◌∷◌, length, take, Some, None, ap, sym, inl, inr, subst, arith}
use Rattle.std.specs.Prelude.{slice_get}
use Rattle.spl_tree.specs.declared.expression.Placed.{Placed}
use Rattle.language_model.specs.Recursion.{Calls, IsCall}
use Rattle.place_sets.specs.declared.place_set.PlaceSet.{PlaceSet}
use Rattle.place_sets.specs.Places.{HasPlace, IsSet, Widens}
use Rattle.cycle_rules.specs.steps.Callers.{Calling}
use Rattle.cycle_rules.specs.steps.Taking.{IsTaken, Misses, Lacks, Takes}
use Rattle.place_sets.proofs.Widening.{here}
use Rattle.cycle_rules.proofs.Calling.{calling_of, call_at}
use Rattle.spl_value.proofs.Lists.{get_below, get_within, only_one, take_cases}

-- what was taken stays at its place
abbrev Keeps : List ℕ → List ℕ → Type 0
Keeps xs ys = (k i : ℕ) → slice_get xs k ≡ Some i → slice_get ys k ≡ Some i

still_there : (xs ys : List ℕ) → Keeps xs ys → (k i : ℕ) → k < length xs → slice_get ys k ≡ Some i → slice_get xs k ≡ Some i
still_there xs ys kept k i below e =
    let x = get_below xs k below in
    let f = kept k x.0 x.1 in
    let same : x.0 ≡ i = cc in
    x.1 ∙ ap Some same

no_shorter : (xs ys : List ℕ) → Keeps xs ys → length xs ≤ length ys
no_shorter xs ys kept =
    let n : length ys < length xs → ⊥ = λ h. let x = get_below xs (length ys) h in let b = get_within ys (length ys) x.0 (kept (length ys) x.0 x.1) in absurd (omega arith) in
    omega (arith, n)

takes_nothing : (calls : Calls) (p : ℕ) (s : PlaceSet) → IsTaken calls s → ((i : ℕ) → i < length calls → p ≡ i → HasPlace s.places.items i ⊎ Misses calls s.places.items i)
    → Takes calls (p ∷ []) s s
takes_nothing calls p s h can = record {
  now = h;
  kept = λ k i e. e;
  grows = omega arith;
  settled = λ same i below st. can i below (only_one p st.at i st.is);
}

pub takes_no_caller : (calls : Calls) (p : ℕ) (s : PlaceSet) → IsTaken calls s → slice_get calls p ≡ None → Takes calls (p ∷ []) s s
takes_no_caller calls p s h e =
    takes_nothing calls p s h (λ i below same. let x = get_below calls i below in let f = x.1 in let g = ap (λ m. slice_get calls m) same in cc)

pub takes_not : (calls : Calls) (p : ℕ) (list : List (Placed ℕ)) (s : PlaceSet) → IsTaken calls s → slice_get calls p ≡ Some list → Lacks list s.places.items
    → Takes calls (p ∷ []) s s
takes_not calls p list s h e l =
    takes_nothing calls p s h (λ i below same. inr (subst (λ m. Misses calls s.places.items m) same (record { callee = l.callee; call = call_at calls p l.callee list e l.calling; none = l.none })))

pub takes_one : (calls : Calls) (p : ℕ) (list : List (Placed ℕ)) (s t : PlaceSet) → IsTaken calls s → slice_get calls p ≡ Some list
    → ((to : ℕ) → Calling list to → HasPlace s.places.items to) → Widens s t (p ∷ []) → Takes calls (p ∷ []) s t
takes_one calls p list s t h e ready w =
    let xs = s.places.items in
    let ys = t.places.items in
    record {
      now = record {
        set = w.set;
        size = w.size ∙ h.size;
        callees = λ k i j f call. elim (split k (length xs)) [
          | inl low ↦
              let b = h.callees k i j (still_there xs ys w.kept k i low f) call in
              record { front = b.front; lower = b.lower; is = w.kept b.front j b.is }
          | inr high ↦ elim (w.only i (here ys k i f)) [
            | inl g ↦
                let same : g.at ≡ k = w.set.once g.at k i (w.kept g.at i g.is) f in
                let b = get_within xs g.at i g.is in
                absurd (omega arith)
            | inr g ↦
                let is : p ≡ i = only_one p g.at i g.is in
                let its : IsCall calls p j = subst (λ m. IsCall calls m j) (sym is) call in
                let same : its.list ≡ list = let o = its.of_caller in cc in
                let r = ready j (subst (λ l. Calling l j) same (calling_of calls p j its)) in
                let b = get_within xs r.at j r.is in
                record { front = r.at; lower = omega arith; is = w.kept r.at j r.is }
          ]
        ];
      };
      kept = w.kept;
      grows = no_shorter xs ys w.kept;
      settled = λ same i below st.
          let c = w.came i st in
          let b = get_within ys c.at i c.is in
          inl (here xs c.at i (still_there xs ys w.kept c.at i (omega arith) c.is));
    }
  where
    split : (k n : ℕ) → (k < n) ⊎ (n ≤ k)
    split k zero = inr (omega arith)
    split zero (suc n) = inl (omega arith)
    split (suc k) (suc n) = elim (split k n) [ inl l ↦ inl (omega arith) | inr l ↦ inr (omega arith) ]

pub takes_none : (calls : Calls) (s : PlaceSet) → IsTaken calls s → Takes calls [] s s
takes_none calls s h = record {
  now = h;
  kept = λ k i e. e;
  grows = omega arith;
  settled = λ same i below st. let e = st.is in cc;
}

pub takes_more : (calls : Calls) (s t u : PlaceSet) (n : ℕ) (ps : List ℕ) (p : ℕ) → slice_get ps n ≡ Some p
    → Takes calls (take n ps) s t → Takes calls (p ∷ []) t u → Takes calls (take (suc n) ps) s u
takes_more calls s t u n ps p at_n w v = record {
  now = v.now;
  kept = λ k i e. v.kept k i (w.kept k i e);
  grows = let a = w.grows in let b = v.grows in omega arith;
  settled = λ same i below st.
      let a = w.grows in
      let b = v.grows in
      let first : length t.places.items ≡ length s.places.items = omega arith in
      let second : length u.places.items ≡ length t.places.items = omega arith in
      elim (take_cases n ps st.at i st.is) [
        | inl e ↦ w.settled first i below (here (take n ps) st.at i e)
        | inr e ↦ elim (v.settled second i below (here (p ∷ []) 0 i (sym at_n ∙ e))) [
          | inl g ↦ let c = get_within t.places.items g.at i g.is in inl (here s.places.items g.at i (still_there s.places.items t.places.items w.kept g.at i (omega arith) g.is))
          | inr m ↦ inr (record { callee = m.callee; call = m.call; none = λ g. m.none (here t.places.items g.at m.callee (w.kept g.at m.callee g.is)) })
        ]
      ];
}

pub taken_none : (calls : Calls) (s : PlaceSet) → IsSet s → length s.marks.items ≡ length calls → s.places.items ≡ [] → IsTaken calls s
taken_none calls s h size empty = record {
  set = h;
  size = size;
  callees = λ k i j e call. absurd (omega (arith, get_within s.places.items k i e, ap length empty));
}

pub settled_now : (calls : Calls) (s t : PlaceSet) (ps : List ℕ) → Takes calls ps s t → length t.places.items ≡ length s.places.items
    → (i : ℕ) → i < length calls → HasPlace ps i → HasPlace t.places.items i ⊎ Misses calls t.places.items i
settled_now calls s t ps w same i below st = elim (w.settled same i below st) [
  | inl g ↦ inl (here t.places.items g.at i (w.kept g.at i g.is))
  | inr m ↦ inr (record {
    callee = m.callee;
    call = m.call;
    none = λ g. let b = get_within t.places.items g.at m.callee g.is in
        m.none (here s.places.items g.at m.callee (still_there s.places.items t.places.items w.kept g.at m.callee (omega arith) g.is));
  })
]
