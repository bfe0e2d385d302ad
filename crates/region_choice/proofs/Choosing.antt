-- The regions that are chosen are a plan.
use Rattle.std.specs.Prelude.{◌≡◌, ◌⊎◌, ◌&&◌, ◌+◌, ◌≤◌, ℕ, zero, suc, Bool, true, false, if◌then◌else◌, List, [], ◌∷◌, ◌++◌, filter}
use Rattle.std.specs.List.{AllByRecursion, concat}
use Rattle.std.proofs.Common.{refl, sym, ap, ◌∙◌, subst, inl, inr, arith, append_assoc, append-nil}
use Rattle.std.proofs.lemmas.Bool.{cases_eq}
use Rattle.stream_model.specs.Regions.{IsPartOf}
use Rattle.region_choice.specs.steps.Choosing.{Chains, last_of, takes, placed, placed_if, chosen_from, chosen}
use Rattle.region_choice.proofs.ChainPlans.{times, Linked, IsChainOf, heads, IsSound, ChosenLaw}
use Rattle.region_choice.proofs.Counts.{times_append, one_other, filter_append, filter_at_most, last_stands, last_added, part_longer, part_both, split}
use Rattle.spl_value.proofs.Bools.{and_parts}

-- ---- plans of a front of the order

-- a region that no operator of the front can be added to
record IsRegionIn (g : Chains) (front : List ℕ) (first : ℕ) (others : List ℕ) : Type 0 where
  linked : Linked g first others
  is_safe : g.safe (first ∷ others) ≡ true
  is_full : (x : ℕ) → g.links (last_of first others) x ≡ true → 1 ≤ times x front → g.safe (first ∷ others ++ x ∷ []) ≡ false

abbrev InFront : Chains → List ℕ → List ℕ → Type 0
InFront g front [] = ⊥
InFront g front (first ∷ others) = IsRegionIn g front first others

record Stands (g : Chains) (front : List ℕ) (plan : List (List ℕ)) : Type 0 where
  regions : AllByRecursion (InFront g front) plan
  once : (x : ℕ) → times x (concat plan) ≡ times x (filter g.eligible front)
  in_order : IsPartOf (heads plan) front

-- ---- tests

-- a region that doesn't take its reader isn't safe with it
not_taken : (g : Chains) (a x : ℕ) (rest : List ℕ) → takes g (a ∷ rest) x ≡ false → g.links (last_of a rest) x ≡ true → g.safe (a ∷ rest ++ x ∷ []) ≡ false
not_taken g a x rest h e =
    sym (ap (λ b. b && g.safe (a ∷ rest ++ x ∷ [])) e) ∙ h

pub linked_added : (g : Chains) (a x : ℕ) (rest : List ℕ) → Linked g a rest → g.links (last_of a rest) x ≡ true → Linked g a (rest ++ x ∷ [])
linked_added g a x [] h e = (e, tt)
linked_added g a x (b ∷ rest) h e = (h.0, linked_added g b x rest h.1 e)

module _ (g : Chains) (front : List ℕ) (x : ℕ) (behind : (y : ℕ) → g.links x y ≡ true → times y (front ++ x ∷ []) ≡ 0) where
  -- a region that can't get x is as full with x in the front
  wider : (region : List ℕ) → (takes g region x ≡ false) → InFront g front region → InFront g (front ++ x ∷ []) region
  wider [] h r = absurd r
  wider (a ∷ rest) h r = record { linked = r.linked; is_safe = r.is_safe; is_full = λ y e stands. by_case y e stands (cases_eq x y) } where
    by_case : (y : ℕ) → g.links (last_of a rest) y ≡ true → 1 ≤ times y (front ++ x ∷ []) → (x ≡ y) ⊎ (x ≡ y → ⊥) → g.safe (a ∷ rest ++ y ∷ []) ≡ false
    by_case y e stands (inl same) = subst (λ y. g.safe (a ∷ rest ++ y ∷ []) ≡ false) same (not_taken g a x rest h (subst (λ y. g.links (last_of a rest) y ≡ true) (sym same) e))
    by_case y e stands (inr other) =
        let parts = times_append y front (x ∷ []) in let none = one_other y x other in
        r.is_full y e (omega arith)

  begun : g.safe (x ∷ []) ≡ true → InFront g (front ++ x ∷ []) (x ∷ [])
  begun alone = record { linked = tt; is_safe = alone; is_full = λ y e stands. absurd (let none = behind y e in omega arith) }

  extended : (region : List ℕ) → takes g region x ≡ true → InFront g front region → InFront g (front ++ x ∷ []) (region ++ x ∷ [])
  extended [] h r = absurd r
  extended (a ∷ rest) h r =
      let both = and_parts (g.links (last_of a rest) x) (g.safe (a ∷ rest ++ x ∷ [])) h in
      record {
        linked = linked_added g a x rest r.linked both.0;
        is_safe = both.1;
        is_full = λ y e stands. absurd (let none = behind y (ap (λ l. g.links l y) (sym (last_added a x rest)) ∙ e) in omega arith);
      }

  -- regions none of which has the maker of what x reads as its last operator
  all_wider : (regions : List (List ℕ)) → ((a : ℕ) → g.links a x ≡ true → times a (concat regions) ≡ 0) → AllByRecursion (InFront g front) regions
      → AllByRecursion (InFront g (front ++ x ∷ [])) regions
  all_wider [] none h = tt
  all_wider ([] ∷ regions) none h = absurd h.0
  all_wider ((a ∷ rest) ∷ regions) none h = (
    record {
      linked = h.0.linked;
      is_safe = h.0.is_safe;
      is_full = λ y e stands. by_case y e stands (cases_eq x y);
    },
    all_wider regions (λ b e. (let parts = times_append b (a ∷ rest) (concat regions) in let n = none b e in omega arith)) h.1,
  ) where
    by_case : (y : ℕ) → g.links (last_of a rest) y ≡ true → 1 ≤ times y (front ++ x ∷ []) → (x ≡ y) ⊎ (x ≡ y → ⊥) → g.safe (a ∷ rest ++ y ∷ []) ≡ false
    by_case y e stands (inl same) =
        let parts = times_append (last_of a rest) (a ∷ rest) (concat regions) in
        let here = last_stands a rest in
        let n = none (last_of a rest) (subst (λ y. g.links (last_of a rest) y ≡ true) (sym same) e) in
        absurd (omega arith)
    by_case y e stands (inr other) =
        let parts = times_append y front (x ∷ []) in let n = one_other y x other in
        h.0.is_full y e (omega arith)

  module _ (sound : IsSound g) (alone : g.safe (x ∷ []) ≡ true) where
    placed_regions : (regions : List (List ℕ)) → ((y : ℕ) → times y (concat regions) ≤ 1) → AllByRecursion (InFront g front) regions
        → AllByRecursion (InFront g (front ++ x ∷ [])) (placed g regions x)
    placed_regions [] once h = (begun alone, tt)
    placed_regions ([] ∷ regions) once h = absurd h.0
    placed_regions ((a ∷ rest) ∷ regions) once h =
        by_case (placed_regions regions (λ y. (let parts = times_append y (a ∷ rest) (concat regions) in let o = once y in omega arith)) h.1) (takes g (a ∷ rest) x) refl where
          by_case : AllByRecursion (InFront g (front ++ x ∷ [])) (placed g regions x) → (b : Bool) → takes g (a ∷ rest) x ≡ b
              → AllByRecursion (InFront g (front ++ x ∷ [])) (if b then ((a ∷ rest) ++ x ∷ []) ∷ regions else (a ∷ rest) ∷ placed g regions x)
          by_case further true e = (
            extended (a ∷ rest) e h.0,
            all_wider regions (λ b is.
                (let both = and_parts (g.links (last_of a rest) x) (g.safe (a ∷ rest ++ x ∷ [])) e in
                let same : last_of a rest ≡ b = sound.one_maker (last_of a rest) b x both.0 is in
                let here = last_stands a rest in
                let moved : times (last_of a rest) (concat regions) ≡ times b (concat regions) = ap (λ b. times b (concat regions)) same in
                let parts = times_append (last_of a rest) (a ∷ rest) (concat regions) in
                let o = once (last_of a rest) in
                omega arith)) h.1,
          )
          by_case further false e = (wider (a ∷ rest) e h.0, further)

-- ---- an operator is placed once, and heads keep their order

pub placed_once : (g : Chains) (x y : ℕ) (regions : List (List ℕ)) → times y (concat (placed g regions x)) ≡ times y (concat regions) + times y (x ∷ [])
placed_once g x y [] = omega arith
placed_once g x y (region ∷ regions) = by_case (placed_once g x y regions) (takes g region x) where
  by_case : times y (concat (placed g regions x)) ≡ times y (concat regions) + times y (x ∷ []) → (b : Bool)
      → times y (concat (if b then (region ++ x ∷ []) ∷ regions else region ∷ placed g regions x)) ≡ times y (concat (region ∷ regions)) + times y (x ∷ [])
  by_case rest true =
      let a = times_append y (region ++ x ∷ []) (concat regions) in
      let b = times_append y region (x ∷ []) in
      let c = times_append y region (concat regions) in
      omega arith
  by_case rest false =
      let a = times_append y region (concat (placed g regions x)) in
      let c = times_append y region (concat regions) in
      omega arith

placed_firsts : (g : Chains) (front : List ℕ) (x : ℕ) (regions : List (List ℕ)) → AllByRecursion (InFront g front) regions
    → (heads (placed g regions x) ≡ heads regions) ⊎ (heads (placed g regions x) ≡ heads regions ++ x ∷ [])
placed_firsts g front x [] h = inr refl
placed_firsts g front x ([] ∷ regions) h = absurd h.0
placed_firsts g front x ((a ∷ rest) ∷ regions) h = by_case (placed_firsts g front x regions h.1) (takes g (a ∷ rest) x) where
  by_case : ((heads (placed g regions x) ≡ heads regions) ⊎ (heads (placed g regions x) ≡ heads regions ++ x ∷ [])) → (b : Bool)
      → (heads (if b then ((a ∷ rest) ++ x ∷ []) ∷ regions else (a ∷ rest) ∷ placed g regions x) ≡ a ∷ heads regions)
      ⊎ (heads (if b then ((a ∷ rest) ++ x ∷ []) ∷ regions else (a ∷ rest) ∷ placed g regions x) ≡ a ∷ heads regions ++ x ∷ [])
  by_case further true = inl refl
  by_case (inl e) false = inl (ap (λ ys. a ∷ ys) e)
  by_case (inr e) false = inr (ap (λ ys. a ∷ ys) e)

-- ---- one operator more

last_behind : (d y : ℕ) (xs ys : List ℕ) → last_of y ys ≡ last_of d (xs ++ y ∷ ys)
last_behind d y [] ys = refl
last_behind d y (x ∷ xs) ys = last_behind x y xs ys

module _ (g : Chains) (sound : IsSound g) where
  -- what reads an operator comes after it
  is_behind : (front after : List ℕ) (x : ℕ) → g.topo ≡ front ++ x ∷ after → (y : ℕ) → g.links x y ≡ true → times y (front ++ x ∷ []) ≡ 0
  is_behind front after x t y e = by_number (times y (front ++ x ∷ [])) refl where
    by_number : (n : ℕ) → times y (front ++ x ∷ []) ≡ n → n ≡ 0
    by_number zero is = refl
    by_number (suc n) is =
        let at = split y (front ++ x ∷ []) (omega arith) in
        let whole : g.topo ≡ at.0 ++ y ∷ (at.1 ++ after) =
        t ∙ sym (append_assoc front (x ∷ []) after) ∙ ap (λ zs. zs ++ after) at.2 ∙ append_assoc at.0 (y ∷ at.1) after in
        let before = sound.ordered at.0 (at.1 ++ after) x y whole e in
        -- x stands before y, and as the last operator again
        let last = last_behind 0 y at.0 at.1 ∙ ap (λ zs. last_of 0 zs) (sym at.2) ∙ last_added 0 x front in
        let here : 1 ≤ times x (y ∷ at.1) = subst (λ z. 1 ≤ times z (y ∷ at.1)) last (last_stands y at.1) in
        let once = sound.once x in
        let a = ap (times x) whole in
        let b = times_append x at.0 (y ∷ (at.1 ++ after)) in
        let c = times_append x (y ∷ at.1) after in
        absurd (omega arith)

  step : (front after : List ℕ) (x : ℕ) (plan : List (List ℕ)) → g.topo ≡ front ++ x ∷ after → Stands g front plan
      → Stands g (front ++ x ∷ []) (placed_if (g.eligible x) g plan x)
  step front after x plan t h = by_case (g.eligible x) refl where
    behind : (y : ℕ) → g.links x y ≡ true → times y (front ++ x ∷ []) ≡ 0
    behind = is_behind front after x t

    at_most : (y : ℕ) → times y (concat plan) ≤ 1
    at_most y =
        let a = h.once y in let b = filter_at_most g.eligible y front in let c = sound.once y in
        let d = ap (times y) t in let e = times_append y front (x ∷ after) in
        omega arith

    by_case : (b : Bool) → g.eligible x ≡ b → Stands g (front ++ x ∷ []) (placed_if b g plan x)
    by_case true e = record {
      regions = placed_regions g front x behind sound (sound.alone x e) plan at_most h.regions;
      once = λ y.
          (let a = placed_once g x y plan in let b = h.once y in
          let c = ap (times y) (filter_append g.eligible front (x ∷ [])) in
          let d = times_append y (filter g.eligible front) (filter g.eligible (x ∷ [])) in
          let f : filter g.eligible (x ∷ []) ≡ x ∷ [] = ap (λ b. if b then x ∷ [] else []) e in
          let k = ap (times y) f in
          omega arith);
      in_order = by_firsts (placed_firsts g front x plan h.regions);
    } where
      by_firsts : ((heads (placed g plan x) ≡ heads plan) ⊎ (heads (placed g plan x) ≡ heads plan ++ x ∷ [])) → IsPartOf (heads (placed g plan x)) (front ++ x ∷ [])
      by_firsts (inl e) = subst (λ ys. IsPartOf ys (front ++ x ∷ [])) (sym e) (part_longer (heads plan) front (x ∷ []) h.in_order)
      by_firsts (inr e) = subst (λ ys. IsPartOf ys (front ++ x ∷ [])) (sym e) (part_both (heads plan) front x h.in_order)
    by_case false e = record {
      regions = all_wider g front x behind plan (λ a is. absurd (let r : g.eligible x ≡ true = (sound.readers a x is).0 in cc)) h.regions;
      once = λ y.
          (let b = h.once y in
          let c = ap (times y) (filter_append g.eligible front (x ∷ [])) in
          let d = times_append y (filter g.eligible front) (filter g.eligible (x ∷ [])) in
          let f : filter g.eligible (x ∷ []) ≡ [] = ap (λ b. if b then x ∷ [] else []) e in
          let k = ap (times y) f in
          omega arith);
      in_order = part_longer (heads plan) front (x ∷ []) h.in_order;
    }

  all_steps : (front rest : List ℕ) (plan : List (List ℕ)) → g.topo ≡ front ++ rest → Stands g front plan → Stands g g.topo (chosen_from g plan rest)
  all_steps front [] plan t h = subst (λ whole. Stands g whole plan) (sym (t ∙ append-nil front)) h
  all_steps front (x ∷ rest) plan t h =
      all_steps (front ++ x ∷ []) rest (placed_if (g.eligible x) g plan x) (t ∙ sym (append_assoc front (x ∷ []) rest)) (step front rest x plan t h)

  whole_regions : (plan : List (List ℕ)) → AllByRecursion (InFront g g.topo) plan → AllByRecursion (IsChainOf g) plan
  whole_regions [] h = tt
  whole_regions ([] ∷ plan) h = absurd h.0
  whole_regions ((a ∷ rest) ∷ plan) h = (
    record { linked = h.0.linked; is_safe = h.0.is_safe; is_full = λ x e. h.0.is_full x e (sound.readers (last_of a rest) x e).1 },
    whole_regions plan h.1,
  )

pub chosen_law : ChosenLaw
chosen_law g sound =
    let none : Stands g [] [] = record { regions = tt; once = λ x. refl; in_order = tt } in
    let h = all_steps g sound [] g.topo [] refl none in
    record { regions = whole_regions g sound (chosen g) h.regions; once = h.once; in_order = h.in_order }
