-- A graph has one plan.
use Rattle.std.specs.Prelude.{◌≡◌, ◌⊎◌, ◌==◌, ◌+◌, ◌≤◌, ℕ, zero, suc, Bool, true, false, if◌then◌else◌, List, [], ◌∷◌, ◌++◌, filter}
use Rattle.std.specs.List.{AllByRecursion, concat}
use Rattle.std.proofs.Common.{refl, sym, ap, ◌∙◌, subst, inl, inr, arith, append_assoc, append-nil}
use Rattle.std.proofs.lemmas.Bool.{cases_eq}
use Rattle.stream_model.specs.Regions.{IsPartOf}
use Rattle.region_choice.specs.steps.Choosing.{Chains, last_of}
use Rattle.region_choice.proofs.ChainPlans.{one_if, times, Linked, IsChain, IsChainOf, heads, IsSound, OnePlanLaw}
use Rattle.region_choice.proofs.Counts.{times_append, one_same, one_other, filter_append, times_filter, filter_at_most, passes, part_times}

-- ---- a region is determined by its first operator

-- what may follow the operators so far, of which that is the last
record Follows (g : Chains) (a : ℕ) (front : List ℕ) (last : ℕ) (rest : List ℕ) : Type 0 where
  linked : Linked g last rest
  is_safe : g.safe (a ∷ front ++ rest) ≡ true
  is_full : (x : ℕ) → g.links (last_of last rest) x ≡ true → g.safe (a ∷ (front ++ rest) ++ x ∷ []) ≡ false

module _ (g : Chains) (sound : IsSound g) where
  further : (a : ℕ) (front : List ℕ) (last b : ℕ) (rest : List ℕ) → Follows g a front last (b ∷ rest) → Follows g a (front ++ b ∷ []) b rest
  further a front last b rest h =
      let e : front ++ b ∷ rest ≡ (front ++ b ∷ []) ++ rest = sym (append_assoc front (b ∷ []) rest) in
      record {
        linked = h.linked.1;
        is_safe = subst (λ xs. g.safe (a ∷ xs) ≡ true) e h.is_safe;
        is_full = λ x r. subst (λ xs. g.safe (a ∷ xs ++ x ∷ []) ≡ false) e (h.is_full x r);
      }

  -- one that ends can't be followed by one more
  no_more : (a : ℕ) (front : List ℕ) (last b : ℕ) (rest : List ℕ) → Follows g a front last [] → Follows g a front last (b ∷ rest) → ⊥
  no_more a front last b rest h k =
      let unsafe : g.safe (a ∷ front ++ b ∷ []) ≡ false = subst (λ xs. g.safe (a ∷ xs ++ b ∷ []) ≡ false) (append-nil front) (h.is_full b k.linked.0) in
      let e : front ++ b ∷ rest ≡ (front ++ b ∷ []) ++ rest = sym (append_assoc front (b ∷ []) rest) in
      let safe : g.safe (a ∷ front ++ b ∷ []) ≡ true = sound.fewer a (front ++ b ∷ []) rest (subst (λ xs. g.safe (a ∷ xs) ≡ true) e k.is_safe) in
      cc

  one_way : (a : ℕ) (front : List ℕ) (last : ℕ) (rest other : List ℕ) → Follows g a front last rest → Follows g a front last other → rest ≡ other
  one_way a front last [] [] h k = refl
  one_way a front last [] (c ∷ other) h k = absurd (no_more a front last c other h k)
  one_way a front last (b ∷ rest) [] h k = absurd (no_more a front last b rest k h)
  one_way a front last (b ∷ rest) (c ∷ other) h k =
      let read : g.links last b ≡ true = h.linked.0 in
      let read_too : g.links last c ≡ true = k.linked.0 in
      let same : c ≡ b = sound.one_reader last c b read_too read in
      let moved = subst (λ c. Follows g a front last (c ∷ other)) same k in
      let is = one_way a (front ++ b ∷ []) b rest other (further a front last b rest h) (further a front last b other moved) in
      ap (λ xs. b ∷ xs) is ∙ ap (λ x. x ∷ other) (sym same)

  same_others : (a : ℕ) (rest other : List ℕ) → IsChain g a rest → IsChain g a other → rest ≡ other
  same_others a rest other h k =
      one_way a [] a rest other (record { linked = h.linked; is_safe = h.is_safe; is_full = h.is_full }) (record { linked = k.linked; is_safe = k.is_safe; is_full = k.is_full })

  -- ---- an operator is the first of its region, or what it reads is made there

  in_links : (a : ℕ) (rest : List ℕ) (x : ℕ) → Linked g a rest → 1 ≤ times x (a ∷ rest) → (a ≡ x) ⊎ ((p : ℕ) × (g.links p x ≡ true) × (1 ≤ times p (a ∷ rest)))
  in_links a [] x links h = by_case (cases_eq a x) where
    by_case : (a ≡ x) ⊎ (a ≡ x → ⊥) → (a ≡ x) ⊎ ((p : ℕ) × (g.links p x ≡ true) × (1 ≤ times p (a ∷ [])))
    by_case (inl e) = inl e
    by_case (inr other) = absurd (let none = one_other x a other in omega arith)
  in_links a (b ∷ rest) x links h = by_case (λ k. in_links b rest x links.1 k) (cases_eq a x) where
    further_in : (b ≡ x) ⊎ ((p : ℕ) × (g.links p x ≡ true) × (1 ≤ times p (b ∷ rest))) → (a ≡ x) ⊎ ((p : ℕ) × (g.links p x ≡ true) × (1 ≤ times p (a ∷ b ∷ rest)))
    further_in (inl e) = inr (a, subst (λ b. g.links a b ≡ true) e links.0, let one = one_same a a refl in omega arith)
    further_in (inr q) = inr (q.0, q.1, let more : 1 ≤ times q.0 (b ∷ rest) = q.2 in omega arith)

    by_case : (1 ≤ times x (b ∷ rest) → (b ≡ x) ⊎ ((p : ℕ) × (g.links p x ≡ true) × (1 ≤ times p (b ∷ rest)))) → (a ≡ x) ⊎ (a ≡ x → ⊥)
        → (a ≡ x) ⊎ ((p : ℕ) × (g.links p x ≡ true) × (1 ≤ times p (a ∷ b ∷ rest)))
    by_case k (inl e) = inl e
    by_case k (inr other) = further_in (k (let none = one_other x a other in omega arith))

  abbrev Found : ℕ → List (List ℕ) → Type 0
  Found x regions = (1 ≤ times x (heads regions)) ⊎ ((p : ℕ) × (g.links p x ≡ true) × (1 ≤ times p (concat regions)))

  found : (regions : List (List ℕ)) (x : ℕ) → AllByRecursion (IsChainOf g) regions → 1 ≤ times x (concat regions) → Found x regions
  found [] x all h = absurd (omega arith)
  found ([] ∷ regions) x all h = absurd all.0
  found ((a ∷ rest) ∷ regions) x all h = by_number (λ k. found regions x all.1 k) (times x (a ∷ rest)) refl where
    here : (a ≡ x) ⊎ ((p : ℕ) × (g.links p x ≡ true) × (1 ≤ times p (a ∷ rest))) → Found x ((a ∷ rest) ∷ regions)
    here (inl e) = inl (let one = one_same x a e in omega arith)
    here (inr q) = inr (q.0, q.1, let one : 1 ≤ times q.0 (a ∷ rest) = q.2 in let parts = times_append q.0 (a ∷ rest) (concat regions) in omega arith)

    there : Found x regions → Found x ((a ∷ rest) ∷ regions)
    there (inl k) = inl (omega arith)
    there (inr q) = inr (q.0, q.1, let one : 1 ≤ times q.0 (concat regions) = q.2 in let parts = times_append q.0 (a ∷ rest) (concat regions) in omega arith)

    by_number : (1 ≤ times x (concat regions) → Found x regions) → (n : ℕ) → times x (a ∷ rest) ≡ n → Found x ((a ∷ rest) ∷ regions)
    by_number k zero is = there (k (let parts = times_append x (a ∷ rest) (concat regions) in omega arith))
    by_number k (suc n) is = here (in_links a rest x all.0.linked (omega arith))

  -- ---- what is left of a plan, after regions that are done

  record Rest (done rest : List ℕ) (more : List (List ℕ)) : Type 0 where
    regions : AllByRecursion (IsChainOf g) more
    once : (x : ℕ) → times x done + times x (concat more) ≡ times x (filter g.eligible g.topo)
    in_order : IsPartOf (heads more) rest

  -- the eligible operators of a front are done
  abbrev Done : List ℕ → List ℕ → Type 0
  Done before done = (x : ℕ) → times x (filter g.eligible before) ≤ times x done

  -- where no region that is left begins with an eligible operator, it is done
  is_done : (before rest done : List ℕ) (x : ℕ) (more : List (List ℕ)) → g.topo ≡ before ++ x ∷ rest → Done before done → Rest done rest more → g.eligible x ≡ true
      → 1 ≤ times x done
  is_done before rest done x more t all h eligible = by_number (times x (concat more)) refl where
    parts : (y : ℕ) → times y g.topo ≡ times y before + times y (x ∷ rest)
    parts y = ap (times y) t ∙ times_append y before (x ∷ rest)

    found_there : Found x more → 1 ≤ times x done
    found_there (inl k) =
        let a = part_times x (heads more) rest h.in_order in let b = parts x in let c = sound.once x in let d = one_same x x refl in
        absurd (omega arith)
    found_there (inr q) =
        let p : ℕ = q.0 in
        let stands : 1 ≤ times p (concat more) = q.2 in
        let earlier = sound.ordered before rest p x t q.1 in
        let o = h.once p in
        let passing : g.eligible p ≡ true = passes g.eligible p g.topo (omega arith) in
        let a = times_filter g.eligible p before passing in
        let b = all p in
        let c = filter_at_most g.eligible p g.topo in
        let d = sound.once p in
        absurd (omega arith)

    by_number : (n : ℕ) → times x (concat more) ≡ n → 1 ≤ times x done
    by_number zero is =
        let o = h.once x in let a = times_filter g.eligible x g.topo eligible in let b = parts x in let d = one_same x x refl in
        omega arith
    by_number (suc n) is = found_there (found more x h.regions (omega arith))

  -- it begins with that operator, or no region does
  abbrev Begins : ℕ → List ℕ → List (List ℕ) → Type 0
  Begins x rest more = (t : List ℕ) × (others : List (List ℕ)) × (more ≡ (x ∷ t) ∷ others) × IsPartOf (heads others) rest

  begins : (done rest : List ℕ) (x : ℕ) (more : List (List ℕ)) → Rest done (x ∷ rest) more → (Begins x rest more) ⊎ (IsPartOf (heads more) rest)
  begins done rest x [] h = inr tt
  begins done rest x ([] ∷ others) h = absurd h.regions.0
  begins done rest x ((a ∷ t) ∷ others) h = by_case h.in_order where
    by_case : ((a ≡ x) × IsPartOf (heads others) rest) ⊎ (IsPartOf (a ∷ heads others) rest) → (Begins x rest ((a ∷ t) ∷ others)) ⊎ (IsPartOf (a ∷ heads others) rest)
    by_case (inl k) = inl (t, others, ap (λ (a : ℕ). (a ∷ t) ∷ others) k.0, k.1)
    by_case (inr k) = inr k

  none_left : (done : List ℕ) (more : List (List ℕ)) → Rest done [] more → more ≡ []
  none_left done [] h = refl
  none_left done ([] ∷ others) h = absurd h.regions.0
  none_left done ((a ∷ t) ∷ others) h = absurd h.in_order

  -- the first region is done too
  first_done : (done rest : List ℕ) (x : ℕ) (t : List ℕ) (others : List (List ℕ)) → Rest done (x ∷ rest) ((x ∷ t) ∷ others) → IsPartOf (heads others) rest
      → Rest (done ++ x ∷ t) rest others
  first_done done rest x t others h k = record {
    regions = h.regions.1;
    once = λ y. (let a = h.once y in let b = times_append y done (x ∷ t) in let c = times_append y (x ∷ t) (concat others) in omega arith);
    in_order = k;
  }

  -- an operator with which a region begins isn't done, and is eligible
  apart : (done rest : List ℕ) (x : ℕ) (t : List ℕ) (others : List (List ℕ)) → Rest done (x ∷ rest) ((x ∷ t) ∷ others) → (g.eligible x ≡ true) × (times x done ≡ 0)
  apart done rest x t others h =
      let o = h.once x in
      let a = times_append x (x ∷ t) (concat others) in
      let one = one_same x x refl in
      let b = filter_at_most g.eligible x g.topo in
      let c = sound.once x in
      (passes g.eligible x g.topo (omega arith), omega arith)

  done_with : (before rest done : List ℕ) (x : ℕ) → g.topo ≡ before ++ x ∷ rest → Done before done → (g.eligible x ≡ true → 1 ≤ times x done) → Done (before ++ x ∷ []) done
  done_with before rest done x t all h y = by_case (g.eligible x) refl (cases_eq x y) where
    by_case : (b : Bool) → g.eligible x ≡ b → (x ≡ y) ⊎ (x ≡ y → ⊥) → times y (filter g.eligible (before ++ x ∷ [])) ≤ times y done
    by_case false e q =
        let a = ap (times y) (filter_append g.eligible before (x ∷ [])) in
        let b = times_append y (filter g.eligible before) (filter g.eligible (x ∷ [])) in
        let c : times y (filter g.eligible (x ∷ [])) ≡ 0 = ap (λ b. times y (if b then x ∷ [] else [])) e in
        let d = all y in
        omega arith
    by_case true e (inl same) =
        let k : 1 ≤ times y done = subst (λ z. 1 ≤ times z done) same (h e) in
        let a = filter_at_most g.eligible y (before ++ x ∷ []) in
        let b = times_append y before (x ∷ []) in
        let c = ap (times y) t in
        let d = times_append y before (x ∷ rest) in
        let f = sound.once y in
        omega arith
    by_case true e (inr other) =
        let a = ap (times y) (filter_append g.eligible before (x ∷ [])) in
        let b = times_append y (filter g.eligible before) (filter g.eligible (x ∷ [])) in
        let c : times y (filter g.eligible (x ∷ [])) ≡ one_if (x == y) + 0 = ap (λ b. times y (if b then x ∷ [] else [])) e in
        let n = one_other y x other in
        let d = all y in
        omega arith

  same_rest : (rest before done : List ℕ) → g.topo ≡ before ++ rest → Done before done → (more other : List (List ℕ)) → Rest done rest more → Rest done rest other → more ≡ other
  same_rest [] before done t all more other h k = none_left done more h ∙ sym (none_left done other k)
  same_rest (x ∷ rest) before done t all more other h k =
      by_cases (λ done. same_rest rest (before ++ x ∷ []) done (t ∙ sym (append_assoc before (x ∷ []) rest))) (begins done rest x more h) (begins done rest x other k) where
        by_cases : ((done : List ℕ) → Done (before ++ x ∷ []) done → (more other : List (List ℕ)) → Rest done rest more → Rest done rest other → more ≡ other)
            → (Begins x rest more) ⊎ (IsPartOf (heads more) rest) → (Begins x rest other) ⊎ (IsPartOf (heads other) rest) → more ≡ other
        by_cases go (inl p) (inl q) =
            let a = subst (λ more. Rest done (x ∷ rest) more) p.2 h in
            let b = subst (λ more. Rest done (x ∷ rest) more) q.2 k in
            let same : q.0 ≡ p.0 = same_others x q.0 p.0 b.regions.0 a.regions.0 in
            let c = subst (λ (u : List ℕ). Rest done (x ∷ rest) ((x ∷ u) ∷ q.1)) same b in
            let all_done : Done (before ++ x ∷ []) (done ++ x ∷ p.0) =
            λ y. (let d = all y in
            let e = ap (times y) (filter_append g.eligible before (x ∷ [])) in
            let f = times_append y (filter g.eligible before) (filter g.eligible (x ∷ [])) in
            let m = filter_at_most g.eligible y (x ∷ []) in
            let n = times_append y done (x ∷ p.0) in
            omega arith) in
            let further_same = go (done ++ x ∷ p.0) all_done p.1 q.1 (first_done done rest x p.0 p.1 a p.3) (first_done done rest x p.0 q.1 c q.3) in
            p.2 ∙ ap (λ (others : List (List ℕ)). (x ∷ p.0) ∷ others) further_same ∙ ap (λ (u : List ℕ). (x ∷ u) ∷ q.1) (sym same) ∙ sym q.2
        by_cases go (inl p) (inr q) =
            let a = apart done rest x p.0 p.1 (subst (λ more. Rest done (x ∷ rest) more) p.2 h) in
            let b = is_done before rest done x other t all (record { regions = k.regions; once = k.once; in_order = q }) a.0 in
            let c : times x done ≡ 0 = a.1 in
            absurd (omega arith)
        by_cases go (inr p) (inl q) =
            let a = apart done rest x q.0 q.1 (subst (λ more. Rest done (x ∷ rest) more) q.2 k) in
            let b = is_done before rest done x more t all (record { regions = h.regions; once = h.once; in_order = p }) a.0 in
            let c : times x done ≡ 0 = a.1 in
            absurd (omega arith)
        by_cases go (inr p) (inr q) =
            let left : Rest done rest more = record { regions = h.regions; once = h.once; in_order = p } in
            let right : Rest done rest other = record { regions = k.regions; once = k.once; in_order = q } in
            go done (done_with before rest done x t all (is_done before rest done x more t all left)) more other left right

pub one_plan_law : OnePlanLaw
one_plan_law g sound plan other h k =
    same_rest g sound g.topo [] [] refl (λ x. omega arith) plan other
    (record { regions = h.regions; once = λ x. (let o = h.once x in omega arith); in_order = h.in_order })
    (record { regions = k.regions; once = λ x. (let o = k.once x in omega arith); in_order = k.in_order })
