-- Plans of a graph are plans of its chains, with the keys and the merges of these.
use Rattle.std.specs.Prelude.{◌≡◌, ◌⊎◌, ◌≤◌, ◌+◌, ◌==◌, ◌&&◌, ◌||◌, ℕ, suc, Bool, true, false, if◌then◌else◌, List, [], ◌∷◌, ◌++◌, map, filter, Some, slice_get}
use Rattle.std.specs.List.{AllByRecursion, concat, list_any}
use Rattle.std.specs.Option.{option_map_or}
use Rattle.std.proofs.Common.{refl, sym, ap, ◌∙◌, subst, inl, inr, arith}
use Rattle.std.proofs.lemmas.Bool.{and_from, and_parts, cases_Bool, cases_eq, eqb-true}
use Rattle.stream_model.specs.declared.plan.Region.{Region}
use Rattle.stream_model.specs.Meaning.{Graph}
use Rattle.stream_model.specs.Operators.{Operator}
use Rattle.stream_model.specs.Regions.{IsPartOf, IsPlan, IsRegion, chain_key, chain_merge, follows, how_often, is_chain, is_eligible, is_safe, ops_of}
use Rattle.stream_model.proofs.parts.Regions.{eligible_numbers, first_number, firsts}
use Rattle.stream_model.specs.Stream.{is_empty}
use Rattle.region_choice.specs.steps.Choosing.{Chains, chosen, last_of}
use Rattle.region_choice.specs.steps.GraphChains.{chains_of, has_key}
use Rattle.region_choice.proofs.ChainPlans.{IsChain, IsChainOf, IsChainPlan, IsSound, Linked, heads, one_if, times}
use Rattle.region_choice.proofs.Counts.{filter_at_most, one_other, one_same, passes, times_append}
use Rattle.region_choice.proofs.Choosing.{chosen_law, linked_added}
use Rattle.region_choice.proofs.OnePlan.{one_plan_law}
use Rattle.region_choice.proofs.Links.{eligible_at, pair_is, pair_of}

-- ---- words

pub how_often_is : (n : ℕ) (ns : List ℕ) → how_often n ns ≡ times n ns
how_often_is n [] = refl
how_often_is n (m ∷ ns) = by_case (how_often_is n ns) (m == n) where
  by_case : how_often n ns ≡ times n ns → (b : Bool) → (if b then suc (how_often n ns) else how_often n ns) ≡ one_if b + times n ns
  by_case rest true = omega arith
  by_case rest false = omega arith

abbrev pub numbers : List Region → List (List ℕ)
numbers plan = map (λ (r : Region). r.ops) plan

firsts_are : (plan : List Region) → firsts plan ≡ heads (numbers plan)
firsts_are [] = refl
firsts_are (region ∷ plan) = by_case (firsts_are plan) region.ops where
  by_case : firsts plan ≡ heads (numbers plan) → (ops : List ℕ) → first_number ops ++ firsts plan ≡ heads (ops ∷ numbers plan)
  by_case rest [] = rest
  by_case rest (a ∷ others) = ap (λ ns. a ∷ ns) rest

-- the region of a chain
abbrev pub made : Graph → List ℕ → Region
made g ops = record { ops = ops; key = chain_key (ops_of g ops); merge = chain_merge (ops_of g ops) }

made_numbers : (g : Graph) (chains : List (List ℕ)) → numbers (map (made g) chains) ≡ chains
made_numbers g [] = refl
made_numbers g (chain ∷ chains) = ap (λ more. chain ∷ more) (made_numbers g chains)

-- ---- chains

first_eligible : (g : Graph) (y : Operator) (ops : List Operator) → is_chain g (y ∷ ops) ≡ true → is_eligible y ≡ true
first_eligible g y [] h = h
first_eligible g y (next ∷ ops) h = (and_parts (is_eligible y) (follows g y next && is_chain g (next ∷ ops)) h).0

ops_first : (g : Graph) (n : ℕ) (ns : List ℕ) (o : Operator) → slice_get g.ops n ≡ Some o → ops_of g (n ∷ ns) ≡ o ∷ ops_of g ns
ops_first g n ns o at = ap (λ found. option_map_or (λ op. op ∷ ops_of g ns) found (ops_of g ns)) at

pub linked_chain : (g : Graph) (a : ℕ) (rest : List ℕ) → (chains_of g).eligible a ≡ true → Linked (chains_of g) a rest → is_chain g (ops_of g (a ∷ rest)) ≡ true
linked_chain g a [] eligible linked =
    let p = eligible_at g a eligible in subst (λ ops. is_chain g ops ≡ true) (sym (ops_first g a [] p.op p.there)) p.eligible
linked_chain g a (b ∷ rest) eligible linked =
    let p = pair_of g a b linked.0 in
    let second : (chains_of g).eligible b ≡ true = ap (λ found. option_map_or is_eligible found false) p.behind ∙ p.link.second in
    let inner : is_chain g (p.y ∷ ops_of g rest) ≡ true =
    subst (λ ops. is_chain g ops ≡ true) (ops_first g b rest p.y p.behind) (linked_chain g b rest second linked.1) in
    let pair : is_chain g (p.x ∷ p.y ∷ []) ≡ true = sym (pair_is g a b p.x p.y p.at p.behind) ∙ linked.0 in
    let parts = and_parts (is_eligible p.x) (follows g p.x p.y && is_eligible p.y) pair in
    let follow = and_parts (follows g p.x p.y) (is_eligible p.y) parts.1 in
    subst (λ ops. is_chain g ops ≡ true) (sym (ops_first g a (b ∷ rest) p.x p.at ∙ ap (λ ops. p.x ∷ ops) (ops_first g b rest p.y p.behind)))
    (and_from (is_eligible p.x) (follows g p.x p.y && is_chain g (p.y ∷ ops_of g rest)) parts.0
    (and_from (follows g p.x p.y) (is_chain g (p.y ∷ ops_of g rest)) follow.0 inner))

-- each is the number of an operator
abbrev pub AllThere : Graph → List ℕ → Type 0
AllThere g ns = (n : ℕ) → 1 ≤ times n ns → (o : Operator) × (slice_get g.ops n ≡ Some o)

there_rest : (g : Graph) (a : ℕ) (ns : List ℕ) → AllThere g (a ∷ ns) → AllThere g ns
there_rest g a ns all n h = all n (omega arith)

there_first : (g : Graph) (a : ℕ) (ns : List ℕ) → AllThere g (a ∷ ns) → (o : Operator) × (slice_get g.ops a ≡ Some o)
there_first g a ns all = all a (let one = one_same a a refl in omega arith)

pub chain_linked : (g : Graph) (a : ℕ) (rest : List ℕ) → AllThere g (a ∷ rest) → is_chain g (ops_of g (a ∷ rest)) ≡ true → Linked (chains_of g) a rest
chain_linked g a [] all h = tt
chain_linked g a (b ∷ rest) all h =
    let x = there_first g a (b ∷ rest) all in
    let y = there_first g b rest (there_rest g a (b ∷ rest) all) in
    let chain : is_chain g (x.0 ∷ y.0 ∷ ops_of g rest) ≡ true =
    subst (λ ops. is_chain g ops ≡ true) (ops_first g a (b ∷ rest) x.0 x.1 ∙ ap (λ ops. x.0 ∷ ops) (ops_first g b rest y.0 y.1)) h in
    let parts = and_parts (is_eligible x.0) (follows g x.0 y.0 && is_chain g (y.0 ∷ ops_of g rest)) chain in
    let more = and_parts (follows g x.0 y.0) (is_chain g (y.0 ∷ ops_of g rest)) parts.1 in
    let second = first_eligible g y.0 (ops_of g rest) more.1 in (
      pair_is g a b x.0 y.0 x.1 y.1
          ∙ and_from (is_eligible x.0) (follows g x.0 y.0 && is_eligible y.0) parts.0 (and_from (follows g x.0 y.0) (is_eligible y.0) more.0 second),
      chain_linked g b rest (there_rest g a (b ∷ rest) all) (subst (λ ops. is_chain g ops ≡ true) (sym (ops_first g b rest y.0 y.1)) more.1),
    )

last_linked : (c : Chains) (a x : ℕ) (rest : List ℕ) → Linked c a (rest ++ x ∷ []) → c.links (last_of a rest) x ≡ true
last_linked c a x [] h = h.0
last_linked c a x (b ∷ rest) h = last_linked c b x rest h.1

-- ---- tests of lists

none_passes : (test : ℕ → Bool) (ns : List ℕ) → ((n : ℕ) → 1 ≤ times n ns → test n ≡ false) → list_any test ns ≡ false
none_passes test [] none = refl
none_passes test (n ∷ ns) none =
    let first : test n ≡ false = none n (let one = one_same n n refl in omega arith) in
    ap (λ b. b || list_any test ns) first ∙ none_passes test ns (λ m h. none m (omega arith))

passes_none : (test : ℕ → Bool) (ns : List ℕ) (n : ℕ) → list_any test ns ≡ false → 1 ≤ times n ns → test n ≡ false
passes_none test [] n none h = absurd (omega arith)
passes_none test (m ∷ ns) n none h = by_case (λ k j. passes_none test ns n k j) (test m) refl none (m == n) refl where
  by_case : (list_any test ns ≡ false → 1 ≤ times n ns → test n ≡ false) → (b : Bool) → test m ≡ b → (b || list_any test ns) ≡ false → (q : Bool) → (m == n) ≡ q → test n ≡ false
  by_case rest true e none q is = absurd cc
  by_case rest false e none true is = ap test (sym (eqb-true m n is)) ∙ e
  by_case rest false e none false is = rest none (let zero : one_if (m == n) ≡ 0 = ap one_if is in omega arith)

both_false : (a b : Bool) → a ≡ true → (a && b) ≡ false → b ≡ false
both_false a b h k = sym (ap (λ a. a && b) h) ∙ k

-- ---- a plan of the graph is one of its chains

module _ (g : Graph) (sound : IsSound (chains_of g)) (valid : AllThere g g.topo) where
  -- what stands among the eligible operators is eligible, and stands in the order
  stands_eligible : (n : ℕ) → 1 ≤ times n (filter (chains_of g).eligible g.topo) → (chains_of g).eligible n ≡ true
  stands_eligible n h = passes (chains_of g).eligible n g.topo h

  full_region : (region : Region) (a : ℕ) (rest : List ℕ) → region.ops ≡ a ∷ rest → AllThere g (a ∷ rest) → IsRegion g region → IsChain (chains_of g) a rest
  full_region region a rest e all h = record {
    linked = linked;
    is_safe = safe.1;
    is_full = λ x link.
        (let fails : is_safe g (ops_of g (a ∷ rest ++ x ∷ [])) ≡ false =
        passes_none (λ n. is_safe g (ops_of g (a ∷ rest ++ n ∷ []))) g.topo x
        (subst (λ (ops : List ℕ). list_any (λ n. is_safe g (ops_of g (ops ++ n ∷ []))) g.topo ≡ false) e h.whole) (sound.readers (last_of a rest) x link).1 in
        both_false (is_chain g (ops_of g (a ∷ rest ++ x ∷ []))) (has_key (ops_of g (a ∷ rest ++ x ∷ [])))
        (linked_chain g a (rest ++ x ∷ []) first (linked_added (chains_of g) a x rest linked link)) fails);
  } where
    safe : (is_chain g (ops_of g (a ∷ rest)) ≡ true) × (has_key (ops_of g (a ∷ rest)) ≡ true)
    safe = and_parts (is_chain g (ops_of g (a ∷ rest))) (has_key (ops_of g (a ∷ rest))) (subst (λ (ops : List ℕ). is_safe g (ops_of g ops) ≡ true) e h.safe)

    linked : Linked (chains_of g) a rest
    linked = chain_linked g a rest all safe.0

    first : (chains_of g).eligible a ≡ true
    first =
        let x = there_first g a rest all in
        ap (λ found. option_map_or is_eligible found false) x.1
        ∙ first_eligible g x.0 (ops_of g rest) (subst (λ ops. is_chain g ops ≡ true) (ops_first g a rest x.0 x.1) safe.0)

  full_regions : (plan : List Region) → AllThere g (concat (numbers plan)) → AllByRecursion (IsRegion g) plan → AllByRecursion (IsChainOf (chains_of g)) (numbers plan)
  full_regions [] all h = tt
  full_regions (region ∷ plan) all h =
      (by_ops region.ops refl, full_regions plan (λ n k. all n (let parts = times_append n region.ops (concat (numbers plan)) in omega arith)) h.1) where
        by_ops : (ops : List ℕ) → region.ops ≡ ops → IsChainOf (chains_of g) region.ops
        by_ops [] e = absurd (let some : is_empty region.ops ≡ false = h.0.some in let none : is_empty region.ops ≡ true = ap is_empty e in cc)
        by_ops (a ∷ rest) e =
            subst (IsChainOf (chains_of g)) (sym e)
            (full_region region a rest e
            (λ n k. all n (let parts = times_append n region.ops (concat (numbers plan)) in let same : times n region.ops ≡ times n (a ∷ rest) = ap (times n) e in omega arith)) h.0)

  once_too : (plan : List Region) → ((n : ℕ) → how_often n (concat (numbers plan)) ≡ how_often n (eligible_numbers g)) → (n : ℕ)
      → times n (concat (numbers plan)) ≡ times n (filter (chains_of g).eligible g.topo)
  once_too plan once n = sym (how_often_is n (concat (numbers plan))) ∙ once n ∙ how_often_is n (eligible_numbers g)

  all_there : (ns : List ℕ) → ((n : ℕ) → times n ns ≡ times n (filter (chains_of g).eligible g.topo)) → AllThere g ns
  all_there ns once n h = valid n (let o = once n in let most = filter_at_most (chains_of g).eligible n g.topo in omega arith)

  chain_plan : (plan : List Region) → IsPlan g plan → IsChainPlan (chains_of g) (numbers plan)
  chain_plan plan h = record {
    regions = full_regions plan (all_there (concat (numbers plan)) (once_too plan h.once)) h.regions;
    once = once_too plan h.once;
    in_order = subst (λ ns. IsPartOf ns g.topo) (firsts_are plan) h.in_order;
  }

  -- ---- and the other way

  made_region : (a : ℕ) (rest : List ℕ) → AllThere g (a ∷ rest) → (chains_of g).eligible a ≡ true → IsChain (chains_of g) a rest → IsRegion g (made g (a ∷ rest))
  made_region a rest all eligible h = record {
    some = refl;
    safe = and_from (is_chain g (ops_of g (a ∷ rest))) (has_key (ops_of g (a ∷ rest))) (linked_chain g a rest eligible h.linked) h.is_safe;
    whole = none_passes (λ n. is_safe g (ops_of g (a ∷ rest ++ n ∷ []))) g.topo (λ n stands. fails n stands (cases_Bool (is_safe g (ops_of g (a ∷ rest ++ n ∷ [])))));
    key = refl;
    merge = refl;
  } where
    fails : (n : ℕ) → 1 ≤ times n g.topo → (is_safe g (ops_of g (a ∷ rest ++ n ∷ [])) ≡ true) ⊎ (is_safe g (ops_of g (a ∷ rest ++ n ∷ [])) ≡ false)
        → is_safe g (ops_of g (a ∷ rest ++ n ∷ [])) ≡ false
    fails n stands (inr none) = none
    fails n stands (inl passes) =
        let parts = and_parts (is_chain g (ops_of g (a ∷ rest ++ n ∷ []))) (has_key (ops_of g (a ∷ rest ++ n ∷ []))) passes in
        let linked = chain_linked g a (rest ++ n ∷ []) (λ m k. more m k (times_append m (a ∷ rest) (n ∷ [])) (cases_eq n m)) parts.0 in
        let full : has_key (ops_of g (a ∷ rest ++ n ∷ [])) ≡ false = h.is_full n (last_linked (chains_of g) a n rest linked) in
        absurd (let safe : has_key (ops_of g (a ∷ rest ++ n ∷ [])) ≡ true = parts.1 in cc)
      where
        more : (m : ℕ) → 1 ≤ times m (a ∷ rest ++ n ∷ []) → times m (a ∷ rest ++ n ∷ []) ≡ times m (a ∷ rest) + times m (n ∷ []) → (n ≡ m) ⊎ (n ≡ m → ⊥)
            → (o : Operator) × (slice_get g.ops m ≡ Some o)
        more m k parts (inl e) = subst (λ m. (o : Operator) × (slice_get g.ops m ≡ Some o)) e (valid n stands)
        more m k parts (inr other) = all m (let none = one_other m n other in omega arith)

  made_regions : (chains : List (List ℕ)) → AllThere g (concat chains) → ((n : ℕ) → 1 ≤ times n (concat chains) → (chains_of g).eligible n ≡ true)
      → AllByRecursion (IsChainOf (chains_of g)) chains → AllByRecursion (IsRegion g) (map (made g) chains)
  made_regions [] all eligible h = tt
  made_regions ([] ∷ chains) all eligible h = absurd h.0
  made_regions ((a ∷ rest) ∷ chains) all eligible h = (
    made_region a rest (λ n k. all n (let parts = times_append n (a ∷ rest) (concat chains) in omega arith))
        (eligible a (let parts = times_append a (a ∷ rest) (concat chains) in let one = one_same a a refl in omega arith)) h.0,
    made_regions chains (λ n k. all n (let parts = times_append n (a ∷ rest) (concat chains) in omega arith))
        (λ n k. eligible n (let parts = times_append n (a ∷ rest) (concat chains) in omega arith)) h.1,
  )

  pub made_plan : (chains : List (List ℕ)) → IsChainPlan (chains_of g) chains → IsPlan g (map (made g) chains)
  made_plan chains h = record {
    regions = made_regions chains (all_there (concat chains) h.once) (λ n k. stands_eligible n (let o = h.once n in omega arith)) h.regions;
    once = λ n.
        ap (λ ns. how_often n (concat ns)) (made_numbers g chains) ∙ how_often_is n (concat chains) ∙ h.once n ∙ sym (how_often_is n (eligible_numbers g));
    in_order = subst (λ ns. IsPartOf ns g.topo) (sym (firsts_are (map (made g) chains) ∙ ap heads (made_numbers g chains))) h.in_order;
  }

  -- ---- one plan

  made_from : (plan : List Region) → AllByRecursion (IsRegion g) plan → plan ≡ map (made g) (numbers plan)
  made_from [] h = refl
  made_from (region ∷ plan) h =
      let rest = made_from plan h.1 in λ i. record { ops = region.ops; key = h.0.key i; merge = h.0.merge i } ∷ rest i

  pub one_plan : (plan other : List Region) → IsPlan g plan → IsPlan g other → plan ≡ other
  one_plan plan other h k =
      let same : numbers plan ≡ numbers other = one_plan_law (chains_of g) sound (numbers plan) (numbers other) (chain_plan plan h) (chain_plan other k) in
      made_from plan h.regions ∙ ap (map (made g)) same ∙ sym (made_from other k.regions)

  pub some_plan : (plan : List Region) × IsPlan g plan
  some_plan = (map (made g) (chosen (chains_of g)), made_plan (chosen (chains_of g)) (chosen_law (chains_of g) sound))
