-- Regions with an operator placed among them.
use Rattle.std.specs.Prelude.{◌≡◌, ◌⊎◌, ◌<◌, ◌≤◌, ◌==◌, ◌+◌, ◌-◌, ◌&&◌, ◌||◌, min, not, ℕ, zero, suc, Bool, true, false, if◌then◌else◌, List, [], ◌∷◌, ◌++◌, map, length, set, Option, None, Some, option_map, slice_get, take, drop}
use Rattle.std.specs.List.{AllByRecursion, concat, Contains}
use Rattle.std.specs.Option.{option_and_then, option_map_or}
use Rattle.std.proofs.Common.{refl, sym, ap, ◌∙◌, subst, inl, inr, arith, get_or}
use Rattle.std.proofs.lemmas.Bool.{and_from, and_left, and_parts, and_right, eq-eqb, eqb-true, or_cases, or_left, or_right}
use Rattle.std.proofs.lemmas.List.{drop_more, length-set, map-append, take-append-drop, take_more}
use Rattle.std.proofs.lemmas.List.Folds.{list_any-append}
use Rattle.spl_value.proofs.Lists.{append_cases, contains_here, get_below, get_set_same, get_within, only_one, set_cases, set_elsewhere}
use Rattle.spl_tree.specs.declared.graph.Op.{Op}
use Rattle.spl_tree.specs.declared.graph.Stream.{Stream}
use Rattle.language_model.specs.CheckedGraph.{CheckedGraph}
use Rattle.language_model.specs.Keeping.{Keeps}
use Rattle.language_model.specs.Keeping as K
use Rattle.language_model.specs.StreamTypes.{Attributes}
use Rattle.stream_model.specs.declared.plan.StateKind.{StateKind}
use Rattle.stream_model.specs.declared.plan.StateKind.TheVariants as S
use Rattle.stream_model.specs.CheckedMeaning.{graph_of}
use Rattle.stream_model.specs.Meaning.{Graph}
use Rattle.stream_model.specs.Operators.{Operator, connections}
use Rattle.stream_model.specs.Regions.{IsPlan, is_eligible, ops_of}
use Rattle.stream_model.proofs.parts.Regions.{is_one, readings}
use Rattle.stream_model.specs.StateKinds.{is_whole_state, state_of}
use Rattle.region_choice.specs.declared.choice.Choice.{Choice}
use Rattle.region_choice.specs.declared.growing.Growing.{Growing}
use Rattle.region_choice.specs.steps.Choices.{ending_at, ending_with, is_among, is_op_last, IsCandidate, IsOutside, IsPlaced, IsSettled, IsStanding, NoneTakes, numbers_of, region_before, sole_maker}
use Rattle.region_choice.specs.steps.Choosing.{Chains, chosen, chosen_from, last_of, placed, placed_if, takes}
use Rattle.region_choice.specs.steps.Counting.{AreReadings}
use Rattle.region_choice.specs.steps.GraphChains.{chains_of, has_key, is_pair}
use Rattle.region_choice.specs.steps.Ports.{entry_of, sole_input, sole_stream}
use Rattle.region_choice.specs.steps.Growing.{IsGrown, IsLonger, region_of}
use Rattle.region_choice.proofs.ChainPlans.{one_if, times}
use Rattle.region_choice.proofs.Choosing.{chosen_law, placed_once}
use Rattle.region_choice.proofs.Counting.{contains_at}
use Rattle.region_choice.proofs.Counts.{one_same, times_append}
use Rattle.region_choice.proofs.Growth.{region_is}
use Rattle.region_choice.proofs.Links.{chain_from, eligible_at, pair_is, pair_of, ports_of, or_false_is}
use Rattle.region_choice.proofs.Plans.{made, made_plan}
use Rattle.region_choice.proofs.Soundness.{all_valid, made_by, sound}
use Rattle.stream_model.proofs.GraphParts.{same_topo, same_length, operator_at}

-- ---- where an operator is placed

pub placed_at : (c : Chains) (regions : List (List ℕ)) (k : ℕ) (region : List ℕ) (x : ℕ) → slice_get regions k ≡ Some region → takes c region x ≡ true
    → ((i : ℕ) (r : List ℕ) → slice_get regions i ≡ Some r → takes c r x ≡ true → i ≡ k) → placed c regions x ≡ set regions k (region ++ x ∷ [])
placed_at c [] k region x at h alone = absurd cc
placed_at c (r ∷ regions) zero region x at h alone =
    let same : r ≡ region = cc in
    let here : takes c r x ≡ true = ap (λ r. takes c r x) same ∙ h in
    ap (λ b. if b then (r ++ x ∷ []) ∷ regions else r ∷ placed c regions x) here ∙ ap (λ r. (r ++ x ∷ []) ∷ regions) same
placed_at c (r ∷ regions) (suc k) region x at h alone =
    by_case (λ none. placed_at c regions k region x at h (λ i q there is. (let same : suc i ≡ suc k = alone (suc i) q there is in omega arith))) (takes c r x) refl where
      by_case : ((takes c r x ≡ false) → placed c regions x ≡ set regions k (region ++ x ∷ [])) → (b : Bool) → takes c r x ≡ b
          → (if b then (r ++ x ∷ []) ∷ regions else r ∷ placed c regions x) ≡ r ∷ set regions k (region ++ x ∷ [])
      by_case rest true e = absurd (let same : 0 ≡ suc k = alone 0 r refl e in omega arith)
      by_case rest false e = ap (λ more. r ∷ more) (rest e)

pub placed_behind : (c : Chains) (regions : List (List ℕ)) (x : ℕ) → ((i : ℕ) (r : List ℕ) → slice_get regions i ≡ Some r → takes c r x ≡ false)
    → placed c regions x ≡ regions ++ (x ∷ []) ∷ []
placed_behind c [] x none = refl
placed_behind c (r ∷ regions) x none =
    ap (λ b. if b then (r ++ x ∷ []) ∷ regions else r ∷ placed c regions x) (none 0 r refl)
    ∙ ap (λ more. r ∷ more) (placed_behind c regions x (λ i q there. none (suc i) q there))

-- ---- lists

map_at : (regions : List Growing) (i : ℕ) (r : List ℕ) → slice_get (map (λ (r : Growing). r.ops) regions) i ≡ Some r → (q : Growing) × (slice_get regions i ≡ Some q) × (q.ops ≡ r)
map_at [] i r at = absurd cc
map_at (q ∷ regions) zero r at = let same : q.ops ≡ r = cc in (q, refl, same)
map_at (q ∷ regions) (suc i) r at = map_at regions i r at

at_map : (regions : List Growing) (i : ℕ) (r : Growing) → slice_get regions i ≡ Some r → slice_get (map (λ (r : Growing). r.ops) regions) i ≡ Some r.ops
at_map [] i r at = absurd cc
at_map (q ∷ regions) zero r at = let same : q ≡ r = cc in ap (λ (r : Growing). Some r.ops) same
at_map (q ∷ regions) (suc i) r at = at_map regions i r at

map_set : (regions : List Growing) (k : ℕ) (r : Growing) → map (λ (r : Growing). r.ops) (set regions k r) ≡ set (map (λ (r : Growing). r.ops) regions) k r.ops
map_set [] k r = refl
map_set (q ∷ regions) zero r = refl
map_set (q ∷ regions) (suc k) r = ap (λ more. q.ops ∷ more) (map_set regions k r)

pub set_as_it_is : (regions : List Growing) (k : ℕ) (r : Growing) → slice_get regions k ≡ Some r → set regions k r ≡ regions
set_as_it_is [] k r at = absurd cc
set_as_it_is (q ∷ regions) zero r at = let same : q ≡ r = cc in ap (λ r. r ∷ regions) (sym same)
set_as_it_is (q ∷ regions) (suc k) r at = ap (λ more. q ∷ more) (set_as_it_is regions k r at)

among_last : (n m : ℕ) (ns : List ℕ) → is_among m (ns ++ n ∷ []) ≡ true → (is_among m ns ≡ true) ⊎ (n ≡ m)
among_last n m ns h = by_case (or_cases (is_among m ns) (is_among m (n ∷ [])) (sym (list_any-append (λ k. k == m) ns (n ∷ [])) ∙ h)) where
  by_case : (is_among m ns ≡ true) ⊎ (is_among m (n ∷ []) ≡ true) → (is_among m ns ≡ true) ⊎ (n ≡ m)
  by_case (inl before) = inl before
  by_case (inr last) = inr (eqb-true n m (or_false_is (n == m) last))

last_at : (a : ℕ) (rest : List ℕ) → slice_get (a ∷ rest) (length rest) ≡ Some (last_of a rest)
last_at a [] = refl
last_at a (b ∷ rest) = last_at b rest

last_among : (a : ℕ) (rest : List ℕ) → is_among (last_of a rest) (a ∷ rest) ≡ true
last_among a [] = or_left (a == a) false (eq-eqb a a refl)
last_among a (b ∷ rest) = or_right (a == last_of b rest) (is_among (last_of b rest) (b ∷ rest)) (last_among b rest)

last_is : (a n : ℕ) (rest : List ℕ) → is_op_last n (a ∷ rest) ≡ (last_of a rest == n)
last_is a n rest =
    let place : length (a ∷ rest) - 1 ≡ length rest = omega arith in
    ap (λ k. option_map_or (λ m. m == n) (slice_get (a ∷ rest) k) false) place ∙ ap (λ found. option_map_or (λ m. m == n) found false) (last_at a rest)

-- ---- the region before

module _ (c : CheckedGraph) (g : Graph) (keeps : Keeps c) (same : graph_of c ≡ g) (counts : List ℕ) (choice : Choice) (standing : IsStanding g choice)
    (n stream : ℕ) (state : StateKind) (o : Operator) (candidate : IsCandidate g counts n stream state o) where
  -- the region whose last operator is linked with it is the one that is found
  found_before : (i : ℕ) (r : Growing) (a : ℕ) (rest : List ℕ) → slice_get choice.regions i ≡ Some r → r.ops ≡ a ∷ rest → is_pair g (last_of a rest) n ≡ true
      → region_before c.graph.streams counts choice stream ≡ Some i
  found_before i r a rest at ops link =
      let p = pair_of g (last_of a rest) n link in
      let own : p.y ≡ o = (let both : Some p.y ≡ Some o = sym p.behind ∙ candidate.there in cc) in
      let streams : p.link.stream ∷ [] ≡ stream ∷ [] = sym p.link.reads ∙ ap connections own ∙ candidate.reads in
      let this : p.link.stream ≡ stream = cc in
      let maker : slice_get c.graph.streams stream ≡ Some (record { maker = last_of a rest; port = 0 }) =
      subst (λ s. slice_get c.graph.streams s ≡ Some (record { maker = last_of a rest; port = 0 })) this (made_by c g keeps same (last_of a rest) p.link.stream p.x p.at p.link.gives) in
      let reading : readings g stream ≡ 1 = subst (λ s. readings g s ≡ 1) this p.link.alone in
      let count : slice_get counts stream ≡ Some 1 = candidate.counted stream candidate.within ∙ ap (λ k. Some (min k 4294967295)) reading in
      let sole : sole_maker c.graph.streams counts stream ≡ Some (last_of a rest) =
      ap (λ found. option_and_then (λ many. if many == 1 then option_map (λ (made : Stream). made.maker) (slice_get c.graph.streams stream) else None) found) count
      ∙ ap (λ found. option_map (λ (made : Stream). made.maker) found) maker in
      let among : is_among (last_of a rest) r.ops ≡ true = ap (is_among (last_of a rest)) ops ∙ last_among a rest in
      let place : slice_get choice.places (last_of a rest) ≡ Some (Some i) = standing.placed i r (last_of a rest) at among in
      let last : is_op_last (last_of a rest) r.ops ≡ true = ap (is_op_last (last_of a rest)) ops ∙ last_is a (last_of a rest) rest ∙ eq-eqb (last_of a rest) (last_of a rest) refl in
      let ending : ending_at choice.regions (last_of a rest) i ≡ Some i =
      ap (option_and_then (λ (r : Growing). if is_op_last (last_of a rest) r.ops then Some i else None)) at ∙ ap (λ b. if b then Some i else None) last in
      ap (option_and_then (ending_with choice)) sole
      ∙ ap (λ found. option_and_then (λ (place : Option ℕ). option_and_then (ending_at choice.regions (last_of a rest)) place) found) place ∙ ending

  -- one that takes it is found
  pub taking_found : (i : ℕ) (r : Growing) → slice_get choice.regions i ≡ Some r → takes (chains_of g) r.ops n ≡ true → region_before c.graph.streams counts choice stream ≡ Some i
  taking_found i r at h = by_ops r.ops refl h where
    by_ops : (ops : List ℕ) → r.ops ≡ ops → takes (chains_of g) ops n ≡ true → region_before c.graph.streams counts choice stream ≡ Some i
    by_ops [] e h = absurd cc
    by_ops (a ∷ rest) e h = found_before i r a rest at e (and_parts (is_pair g (last_of a rest) n) (has_key (ops_of g (a ∷ rest ++ n ∷ []))) h).0

  -- the region that is found is there, and its last operator is linked with it
  pub record Found (at : ℕ) : Type 0 where
    pub region : Growing
    pub there : slice_get choice.regions at ≡ Some region
    pub takes_if : takes (chains_of g) region.ops n ≡ has_key (ops_of g (region.ops ++ n ∷ []))

  -- a stream's sole maker makes it, and nothing else takes it
  record Sole (m : ℕ) : Type 0 where
    made : Stream
    is_made : slice_get c.graph.streams stream ≡ Some made
    maker : made.maker ≡ m
    reading : readings g stream ≡ 1

  sole_is : (m : ℕ) → sole_maker c.graph.streams counts stream ≡ Some m → Sole m
  sole_is m h = by_count (slice_get counts stream) refl h where
    by_stream : (found : Option Stream) → slice_get c.graph.streams stream ≡ found → option_map (λ (made : Stream). made.maker) found ≡ Some m → readings g stream ≡ 1 → Sole m
    by_stream None e h one = absurd cc
    by_stream (Some made) e h one = let maker : made.maker ≡ m = cc in record { made = made; is_made = e; maker = maker; reading = one }

    by_count : (found : Option ℕ) → slice_get counts stream ≡ found
        → option_and_then (λ many. if many == 1 then option_map (λ (made : Stream). made.maker) (slice_get c.graph.streams stream) else None) found ≡ Some m → Sole m
    by_count None e h = absurd cc
    by_count (Some many) e h = by_test (many == 1) refl h where
      by_test : (b : Bool) → (many == 1) ≡ b → (if b then option_map (λ (made : Stream). made.maker) (slice_get c.graph.streams stream) else None) ≡ Some m → Sole m
      by_test true one h =
          let is : many ≡ 1 = eqb-true many 1 one in
          let both : Some many ≡ Some (min (readings g stream) 4294967295) = sym e ∙ candidate.counted stream candidate.within in
          let capped : many ≡ min (readings g stream) 4294967295 = cc in
          by_stream (slice_get c.graph.streams stream) refl h (omega arith)
      by_test false one h = absurd cc

  -- an eligible operator that is the sole maker is linked with it
  maker_linked : (m : ℕ) (x : Operator) → Sole m → slice_get g.ops m ≡ Some x → is_eligible x ≡ true → is_pair g m n ≡ true
  maker_linked m x sole at eligible =
      let ports = ports_of x eligible in
      let named = (keeps.graph.made stream sole.made).0 sole.is_made in
      let is = operator_at c g same m x at in
      let own : named.0 ≡ is.op =
      (let first : slice_get c.graph.ops m ≡ Some named.0 = subst (λ k. slice_get c.graph.ops k ≡ Some named.0) sole.maker named.1 in
      let second : slice_get c.graph.ops m ≡ Some is.op = is.there in cc) in
      let outs : named.0.outs ≡ ports.output ∷ [] = ap (λ (op : Op). op.outs) own ∙ sym (ap (λ (o : Operator). o.outs) is.same) ∙ ports.gives in
      let output : ports.output ≡ stream = only_one ports.output sole.made.port stream (sym (ap (λ (ss : List ℕ). slice_get ss sole.made.port) outs) ∙ named.2) in
      pair_is g m n x o at candidate.there
      ∙ chain_from g x o stream eligible candidate.eligible (ports.gives ∙ ap (λ s. s ∷ []) output) candidate.reads sole.reading

  maker_found : (m at : ℕ) → sole_maker c.graph.streams counts stream ≡ Some m → ending_with choice m ≡ Some at → Found at
  maker_found m at sole ending = by_place (slice_get choice.places m) refl ending where
    by_last : (r : Growing) (ops : List ℕ) → slice_get choice.regions at ≡ Some r → r.ops ≡ ops → is_op_last m ops ≡ true → Found at
    by_last r [] there e last = absurd cc
    by_last r (a ∷ rest) there e last =
        let is : last_of a rest ≡ m = eqb-true (last_of a rest) m (sym (last_is a m rest) ∙ last) in
        let among : is_among (last_of a rest) r.ops ≡ true = ap (is_among (last_of a rest)) e ∙ last_among a rest in
        let x = eligible_at g (last_of a rest) (standing.eligible at r (last_of a rest) there among) in
        let link : is_pair g (last_of a rest) n ≡ true =
        maker_linked (last_of a rest) x.op (subst Sole (sym is) (sole_is m sole)) x.there x.eligible in
        record {
          region = r;
          there = there;
          takes_if = ap (λ (ops : List ℕ). takes (chains_of g) ops n) e ∙ ap (λ b. b && has_key (ops_of g (a ∷ rest ++ n ∷ []))) link
              ∙ ap (λ (ops : List ℕ). has_key (ops_of g (ops ++ n ∷ []))) (sym e);
        }

    by_region : (k : ℕ) (found : Option Growing) → slice_get choice.regions k ≡ found → option_and_then (λ (r : Growing). if is_op_last m r.ops then Some k else None) found ≡ Some at → Found at
    by_region k None e h = absurd cc
    by_region k (Some r) e h = by_test (is_op_last m r.ops) refl h where
      by_test : (b : Bool) → is_op_last m r.ops ≡ b → (if b then Some k else None) ≡ Some at → Found at
      by_test true last h = let here : k ≡ at = cc in by_last r r.ops (subst (λ k. slice_get choice.regions k ≡ Some r) here e) refl last
      by_test false last h = absurd cc

    by_inner : (found : Option ℕ) → option_and_then (ending_at choice.regions m) found ≡ Some at → Found at
    by_inner None h = absurd cc
    by_inner (Some k) h = by_region k (slice_get choice.regions k) refl h

    by_place : (found : Option (Option ℕ)) → slice_get choice.places m ≡ found
        → option_and_then (λ (place : Option ℕ). option_and_then (ending_at choice.regions m) place) found ≡ Some at → Found at
    by_place None e h = absurd cc
    by_place (Some found) e h = by_inner found h

  pub found_region : (at : ℕ) → region_before c.graph.streams counts choice stream ≡ Some at → Found at
  found_region at h = by_maker (sole_maker c.graph.streams counts stream) refl h where
    by_maker : (found : Option ℕ) → sole_maker c.graph.streams counts stream ≡ found → option_and_then (ending_with choice) found ≡ Some at → Found at
    by_maker None e h = absurd cc
    by_maker (Some m) e h = maker_found m at e h

  pub none_found : region_before c.graph.streams counts choice stream ≡ None → NoneTakes g choice n
  none_found none i r at = by_case (takes (chains_of g) r.ops n) refl where
    by_case : (b : Bool) → takes (chains_of g) r.ops n ≡ b → takes (chains_of g) r.ops n ≡ false
    by_case false e = e
    by_case true e = absurd (let found = taking_found i r at e in cc)

  -- it is the only one that takes the operator
  pub only_found : (at : ℕ) → region_before c.graph.streams counts choice stream ≡ Some at → (i : ℕ) (r : Growing) → slice_get choice.regions i ≡ Some r
      → takes (chains_of g) r.ops n ≡ true → i ≡ at
  only_found at found i r there h = let this = taking_found i r there h in let both : Some i ≡ Some at = sym this ∙ found in cc

  pub found_takes : (at : ℕ) (region : Growing) → region_before c.graph.streams counts choice stream ≡ Some at → slice_get choice.regions at ≡ Some region
      → takes (chains_of g) region.ops n ≡ has_key (ops_of g (region.ops ++ n ∷ []))
  found_takes at region found there =
      let f = found_region at found in
      let same : f.region ≡ region = (let both : Some f.region ≡ Some region = sym f.there ∙ there in cc) in
      subst (λ (r : Growing). takes (chains_of g) r.ops n ≡ has_key (ops_of g (r.ops ++ n ∷ []))) same f.takes_if

  -- where it has no key with the operator, none takes that
  pub none_joined : (at : ℕ) (region : Growing) → region_before c.graph.streams counts choice stream ≡ Some at → slice_get choice.regions at ≡ Some region
      → has_key (ops_of g (region.ops ++ n ∷ [])) ≡ false → NoneTakes g choice n
  none_joined at region found there unsafe i r here = by_case (takes (chains_of g) r.ops n) refl where
    by_case : (b : Bool) → takes (chains_of g) r.ops n ≡ b → takes (chains_of g) r.ops n ≡ false
    by_case false e = e
    by_case true e =
        let place : i ≡ at = only_found at found i r here e in
        let moved : slice_get choice.regions at ≡ Some r = ap (slice_get choice.regions) (sym place) ∙ here in
        let same : region ≡ r = (let both : Some region ≡ Some r = sym there ∙ moved in cc) in
        sym (ap (λ (r : Growing). takes (chains_of g) r.ops n) same) ∙ found_takes at region found there ∙ unsafe

-- the place that is found is one of a region
pub before_within : (streams : List Stream) (counts : List ℕ) (choice : Choice) (s at : ℕ) → region_before streams counts choice s ≡ Some at → at < length choice.regions
before_within streams counts choice s at h = by_maker (sole_maker streams counts s) h where
  by_region : (m k : ℕ) (found : Option Growing) → slice_get choice.regions k ≡ found → option_and_then (λ (r : Growing). if is_op_last m r.ops then Some k else None) found ≡ Some at
      → at < length choice.regions
  by_region m k None e h = absurd cc
  by_region m k (Some r) e h = by_test (is_op_last m r.ops) h where
    by_test : (b : Bool) → (if b then Some k else None) ≡ Some at → at < length choice.regions
    by_test true h = let here : k ≡ at = cc in subst (λ k. k < length choice.regions) here (get_within choice.regions k r e)
    by_test false h = absurd cc

  by_inner : (m : ℕ) (found : Option ℕ) → option_and_then (ending_at choice.regions m) found ≡ Some at → at < length choice.regions
  by_inner m None h = absurd cc
  by_inner m (Some k) h = by_region m k (slice_get choice.regions k) refl h

  by_place : (m : ℕ) (found : Option (Option ℕ)) → option_and_then (λ (place : Option ℕ). option_and_then (ending_at choice.regions m) place) found ≡ Some at
      → at < length choice.regions
  by_place m None h = absurd cc
  by_place m (Some found) h = by_inner m found h

  by_maker : (found : Option ℕ) → option_and_then (ending_with choice) found ≡ Some at → at < length choice.regions
  by_maker None h = absurd cc
  by_maker (Some m) h = by_place m (slice_get choice.places m) h

-- ---- joining

module _ (g : Graph) (old new : Choice) (standing : IsStanding g old) (n : ℕ) (eligible : (chains_of g).eligible n ≡ true) (outside : IsOutside old n) (within : n < length g.ops) where
  -- an operator of a region isn't the new one
  other_place : (i : ℕ) (r : Growing) (m at : ℕ) → slice_get old.regions i ≡ Some r → is_among m r.ops ≡ true → slice_get (set old.places n (Some at)) m ≡ Some (Some i)
  other_place i r m at there among =
      set_elsewhere old.places n m (Some at) (λ e. (let none : is_among n r.ops ≡ false = outside i r there in let some : is_among n r.ops ≡ true = ap (λ k. is_among k r.ops) e ∙ among in absurd cc))
      ∙ standing.placed i r m there among

  new_place : (at : ℕ) → slice_get (set old.places n (Some at)) n ≡ Some (Some at)
  new_place at = get_set_same old.places n (Some at) (let many = standing.many in omega arith)

  pub joined : (at : ℕ) (region grown : Growing) → slice_get old.regions at ≡ Some region → takes (chains_of g) region.ops n ≡ true
      → ((i : ℕ) (r : Growing) → slice_get old.regions i ≡ Some r → takes (chains_of g) r.ops n ≡ true → i ≡ at) → IsLonger g region n grown
      → new.regions ≡ set old.regions at grown → new.places ≡ set old.places n (Some at) → IsPlaced g old n new
  joined at region grown there takes_it alone longer regions places = record {
    standing = record {
      grown = λ i r here. grown_too i r (set_cases old.regions at i grown r (sym (ap (λ (rs : List Growing). slice_get rs i) regions) ∙ here)) here;
      placed = λ i r m here among.
          ap (λ (ps : List (Option ℕ)). slice_get ps m) places
          ∙ placed_too i r m (set_cases old.regions at i grown r (sym (ap (λ (rs : List Growing). slice_get rs i) regions) ∙ here)) here among;
      eligible = λ i r m here among. eligible_too i r m (set_cases old.regions at i grown r (sym (ap (λ (rs : List Growing). slice_get rs i) regions) ∙ here)) here among;
      many = ap length places ∙ length-set old.places n (Some at) ∙ standing.many;
    };
    numbers = ap (map (λ (r : Growing). r.ops)) regions ∙ map_set old.regions at grown ∙ ap (set (numbers_of old) at) longer.ops
        ∙ sym (placed_at (chains_of g) (numbers_of old) at region.ops n (at_map old.regions at region there) takes_it
        (λ i ops here is. (let q = map_at old.regions i ops here in alone i q.0 q.1 (ap (λ (ops : List ℕ). takes (chains_of g) ops n) q.2 ∙ is))));
  } where
    same_region : (i : ℕ) (r : Growing) → at ≡ i → slice_get new.regions i ≡ Some r → grown ≡ r
    same_region i r e here =
        let put : slice_get (set old.regions at grown) at ≡ Some grown = get_set_same old.regions at grown (get_within old.regions at region there) in
        let is : slice_get (set old.regions at grown) at ≡ Some r =
        sym (ap (λ (rs : List Growing). slice_get rs at) regions) ∙ ap (λ k. slice_get new.regions k) e ∙ here in
        cc

    grown_too : (i : ℕ) (r : Growing) → (at ≡ i) ⊎ (slice_get old.regions i ≡ Some r) → slice_get new.regions i ≡ Some r → IsGrown g r
    grown_too i r (inl e) here = subst (IsGrown g) (same_region i r e here) longer.grown
    grown_too i r (inr before) here = standing.grown i r before

    by_last : (i m : ℕ) → at ≡ i → (is_among m region.ops ≡ true) ⊎ (n ≡ m) → slice_get (set old.places n (Some at)) m ≡ Some (Some i)
    by_last i m e (inl before) = other_place at region m at there before ∙ ap (λ k. Some (Some k)) e
    by_last i m e (inr is) = ap (λ k. slice_get (set old.places n (Some at)) k) (sym is) ∙ new_place at ∙ ap (λ k. Some (Some k)) e

    in_grown : (r : Growing) (m : ℕ) → grown ≡ r → is_among m r.ops ≡ true → (is_among m region.ops ≡ true) ⊎ (n ≡ m)
    in_grown r m e among = among_last n m region.ops (ap (is_among m) (sym longer.ops ∙ ap (λ (r : Growing). r.ops) e) ∙ among)

    placed_too : (i : ℕ) (r : Growing) (m : ℕ) → (at ≡ i) ⊎ (slice_get old.regions i ≡ Some r) → slice_get new.regions i ≡ Some r → is_among m r.ops ≡ true
        → slice_get (set old.places n (Some at)) m ≡ Some (Some i)
    placed_too i r m (inl e) here among = by_last i m e (in_grown r m (same_region i r e here) among)
    placed_too i r m (inr before) here among = other_place i r m at before among

    eligible_last : (m : ℕ) → (is_among m region.ops ≡ true) ⊎ (n ≡ m) → (chains_of g).eligible m ≡ true
    eligible_last m (inl before) = standing.eligible at region m there before
    eligible_last m (inr is) = subst (λ k. (chains_of g).eligible k ≡ true) is eligible

    eligible_too : (i : ℕ) (r : Growing) (m : ℕ) → (at ≡ i) ⊎ (slice_get old.regions i ≡ Some r) → slice_get new.regions i ≡ Some r → is_among m r.ops ≡ true
        → (chains_of g).eligible m ≡ true
    eligible_too i r m (inl e) here among = eligible_last m (in_grown r m (same_region i r e here) among)
    eligible_too i r m (inr before) here among = standing.eligible i r m before among

  -- ---- beginning

  pub begins : (region : Growing) → NoneTakes g old n → region.ops ≡ n ∷ [] → IsGrown g region → new.regions ≡ old.regions ++ region ∷ []
      → new.places ≡ set old.places n (Some (length old.regions)) → IsPlaced g old n new
  begins region none ops grown regions places = record {
    standing = record {
      grown = λ i r here. grown_too i r (append_cases old.regions region i r (sym (ap (λ (rs : List Growing). slice_get rs i) regions) ∙ here));
      placed = λ i r m here among.
          ap (λ (ps : List (Option ℕ)). slice_get ps m) places
          ∙ placed_too i r m (append_cases old.regions region i r (sym (ap (λ (rs : List Growing). slice_get rs i) regions) ∙ here)) among;
      eligible = λ i r m here among. eligible_too i r m (append_cases old.regions region i r (sym (ap (λ (rs : List Growing). slice_get rs i) regions) ∙ here)) among;
      many = ap length places ∙ length-set old.places n (Some (length old.regions)) ∙ standing.many;
    };
    numbers = ap (map (λ (r : Growing). r.ops)) regions ∙ map-append (λ (r : Growing). r.ops) old.regions (region ∷ [])
        ∙ ap (λ (ops : List ℕ). numbers_of old ++ ops ∷ []) ops
        ∙ sym (placed_behind (chains_of g) (numbers_of old) n
        (λ i ops here. (let q = map_at old.regions i ops here in ap (λ (ops : List ℕ). takes (chains_of g) ops n) (sym q.2) ∙ none i q.0 q.1)));
  } where
    grown_too : (i : ℕ) (r : Growing) → (slice_get old.regions i ≡ Some r) ⊎ ((i ≡ length old.regions) × (region ≡ r)) → IsGrown g r
    grown_too i r (inl before) = standing.grown i r before
    grown_too i r (inr last) = subst (IsGrown g) last.1 grown

    is_new : (r : Growing) (m : ℕ) → region ≡ r → is_among m r.ops ≡ true → n ≡ m
    is_new r m e among = eqb-true n m (or_false_is (n == m) (ap (is_among m) (sym ops ∙ ap (λ (r : Growing). r.ops) e) ∙ among))

    placed_too : (i : ℕ) (r : Growing) (m : ℕ) → (slice_get old.regions i ≡ Some r) ⊎ ((i ≡ length old.regions) × (region ≡ r)) → is_among m r.ops ≡ true
        → slice_get (set old.places n (Some (length old.regions))) m ≡ Some (Some i)
    placed_too i r m (inl before) among = other_place i r m (length old.regions) before among
    placed_too i r m (inr last) among =
        ap (λ k. slice_get (set old.places n (Some (length old.regions))) k) (sym (is_new r m last.1 among)) ∙ new_place (length old.regions)
        ∙ ap (λ k. Some (Some k)) (sym last.0)

    eligible_too : (i : ℕ) (r : Growing) (m : ℕ) → (slice_get old.regions i ≡ Some r) ⊎ ((i ≡ length old.regions) × (region ≡ r)) → is_among m r.ops ≡ true
        → (chains_of g).eligible m ≡ true
    eligible_too i r m (inl before) among = standing.eligible i r m before among
    eligible_too i r m (inr last) among = subst (λ k. (chains_of g).eligible k ≡ true) (is_new r m last.1 among) eligible

-- ---- all operators

pub chosen_more : (c : Chains) (regions : List (List ℕ)) (xs : List ℕ) (x : ℕ) → chosen_from c regions (xs ++ x ∷ []) ≡ placed_if (c.eligible x) c (chosen_from c regions xs) x
chosen_more c regions [] x = refl
chosen_more c regions (y ∷ xs) x = chosen_more c (placed_if (c.eligible y) c regions y) xs x

chosen_times : (c : Chains) (regions : List (List ℕ)) (xs : List ℕ) (x : ℕ) → times x (concat (chosen_from c regions xs)) ≤ times x (concat regions) + times x xs
chosen_times c regions [] x = omega arith
chosen_times c regions (y ∷ xs) x =
    let rest = chosen_times c (placed_if (c.eligible y) c regions y) xs x in
    let step = one_more (c.eligible y) in
    omega arith
  where
    one_more : (b : Bool) → times x (concat (placed_if b c regions y)) ≤ times x (concat regions) + times x (y ∷ [])
    one_more true = let once = placed_once c y x regions in omega arith
    one_more false = omega arith

among_times : (n : ℕ) (ns : List ℕ) → is_among n ns ≡ true → 1 ≤ times n ns
among_times n [] h = absurd cc
among_times n (m ∷ ns) h = by_case (λ k. among_times n ns k) (m == n) refl h where
  by_case : (is_among n ns ≡ true → 1 ≤ times n ns) → (b : Bool) → (m == n) ≡ b → (b || is_among n ns) ≡ true → 1 ≤ one_if (m == n) + times n ns
  by_case rest true e h = let one : one_if (m == n) ≡ 1 = ap one_if e in omega arith
  by_case rest false e h = let more = rest h in omega arith

region_times : (n : ℕ) (regions : List Growing) (i : ℕ) (r : Growing) → slice_get regions i ≡ Some r → times n r.ops ≤ times n (concat (map (λ (r : Growing). r.ops) regions))
region_times n [] i r at = absurd cc
region_times n (q ∷ regions) zero r at =
    let same : q ≡ r = cc in
    let times_same : times n q.ops ≡ times n r.ops = ap (λ (r : Growing). times n r.ops) same in
    let parts = times_append n q.ops (concat (map (λ (r : Growing). r.ops) regions)) in
    omega arith
region_times n (q ∷ regions) (suc i) r at =
    let rest = region_times n regions i r at in let parts = times_append n q.ops (concat (map (λ (r : Growing). r.ops) regions)) in omega arith

-- an operator of the order that comes after some isn't in the regions that these are put in
pub still_outside : (c : Chains) (choice : Choice) (front after : List ℕ) (n : ℕ) → times n c.topo ≤ 1 → c.topo ≡ front ++ n ∷ after → numbers_of choice ≡ chosen_from c [] front
    → IsOutside choice n
still_outside c choice front after n once whole numbers i r at = by_case (is_among n r.ops) refl where
  by_case : (b : Bool) → is_among n r.ops ≡ b → is_among n r.ops ≡ false
  by_case false e = e
  by_case true e =
      let here = among_times n r.ops e in
      let inside = region_times n choice.regions i r at in
      let same : times n (concat (numbers_of choice)) ≡ times n (concat (chosen_from c [] front)) = ap (λ ns. times n (concat ns)) numbers in
      let most = chosen_times c [] front n in
      let parts : times n c.topo ≡ times n front + times n (n ∷ after) = ap (times n) whole ∙ times_append n front (n ∷ after) in
      let one = one_same n n refl in
      absurd (omega arith)

-- the regions as they have grown
pub regions_are : (g : Graph) (regions : List Growing) → ((i : ℕ) (r : Growing) → slice_get regions i ≡ Some r → IsGrown g r)
    → map region_of regions ≡ map (made g) (map (λ (r : Growing). r.ops) regions)
regions_are g [] grown = refl
regions_are g (r ∷ regions) grown =
    let first = region_is g r (grown 0 r refl) in
    let rest = regions_are g regions (λ i q at. grown (suc i) q at) in
    λ i. first i ∷ rest i

-- ---- operators that may stand in regions

pub ports_same : (c : CheckedGraph) (g : Graph) → graph_of c ≡ g → (n : ℕ) (o : Operator) (own : Op) → slice_get g.ops n ≡ Some o → slice_get c.graph.ops n ≡ Some own
    → (own.ins ≡ o.ins) × (own.outs ≡ o.outs)
ports_same c g e n o own at there =
    let is = operator_at c g e n o at in
    let found : slice_get c.graph.ops n ≡ Some is.op = is.there in
    let same : own ≡ is.op = cc in
    (ap (λ (op : Op). op.ins) same ∙ sym (ap (λ (o : Operator). o.ins) is.same), ap (λ (op : Op). op.outs) same ∙ sym (ap (λ (o : Operator). o.outs) is.same))

pub op_there : (c : CheckedGraph) (g : Graph) → graph_of c ≡ g → (n : ℕ) (o : Operator) → slice_get g.ops n ≡ Some o → slice_get c.graph.ops n ≡ None → ⊥
op_there c g e n o at none = let is = operator_at c g e n o at in let found : slice_get c.graph.ops n ≡ Some is.op = is.there in absurd cc

abbrev SomeInEach : List (List ℕ) → Type 0
SomeInEach ins = AllByRecursion (λ (p : List ℕ). 0 < length p) ins

ports_some : (schemas : List Attributes) (ports : List (List ℕ)) (ins : List Attributes) → K.PortsHave schemas ports ins → SomeInEach ports
ports_some schemas _ _ K.no_ports = tt
ports_some schemas _ _ (K.one_port streams ports schema rest h hs) = (h.some, ports_some schemas ports rest hs)

stream_is : (ins : List (List ℕ)) (s : ℕ) → sole_stream ins ≡ Some s → concat ins ≡ s ∷ []
stream_is [] s h = absurd cc
stream_is ([] ∷ ins) s h = absurd cc
stream_is ((t ∷ []) ∷ []) s h = let same : t ≡ s = cc in ap (λ t. t ∷ []) same
stream_is ((t ∷ []) ∷ p ∷ ins) s h = absurd cc
stream_is ((t ∷ u ∷ p) ∷ ins) s h = absurd cc

stream_none : (ins : List (List ℕ)) → SomeInEach ins → sole_stream ins ≡ None → is_one (concat ins) ≡ false
stream_none [] some h = refl
stream_none ([] ∷ ins) some h = absurd (let first = some.0 in omega arith)
stream_none ((t ∷ []) ∷ []) some h = absurd cc
stream_none ((t ∷ []) ∷ [] ∷ ins) some h = absurd (let second = some.1.0 in omega arith)
stream_none ((t ∷ []) ∷ (u ∷ p) ∷ ins) some h = refl
stream_none ((t ∷ u ∷ p) ∷ ins) some h = refl

input_some : (ins : List (List ℕ)) (outs : List ℕ) (s : ℕ) → sole_input ins outs ≡ Some s → (concat ins ≡ s ∷ []) × (is_one outs ≡ true)
input_some ins [] s h = absurd cc
input_some ins (t ∷ []) s h = (stream_is ins s h, refl)
input_some ins (t ∷ u ∷ outs) s h = absurd cc

input_none : (ins : List (List ℕ)) (outs : List ℕ) (b : Bool) → SomeInEach ins → sole_input ins outs ≡ None → (is_one (concat ins) && (is_one outs && b)) ≡ false
input_none ins [] b some h = and_right (is_one (concat ins)) false refl
input_none ins (t ∷ []) b some h = and_left (is_one (concat ins)) b (stream_none ins some h)
input_none ins (t ∷ u ∷ outs) b some h = and_right (is_one (concat ins)) false refl

eligible_with : (o : Operator) (s : ℕ) → (concat o.ins ≡ s ∷ []) × (is_one o.outs ≡ true) → is_whole_state (state_of o) ≡ false → (is_eligible o ≡ true) × (connections o ≡ s ∷ [])
eligible_with o s h state = (
  and_from (is_one (connections o)) (is_one o.outs && not (is_whole_state (state_of o))) (ap is_one h.0)
      (and_from (is_one o.outs) (not (is_whole_state (state_of o))) h.1 (ap not state)),
  h.0,
)

pub entry_some : (o : Operator) (state : StateKind) (s : ℕ) → state_of o ≡ state → entry_of o.ins o.outs state ≡ Some s → (is_eligible o ≡ true) × (connections o ≡ s ∷ [])
entry_some o S.Stateless s is h = eligible_with o s (input_some o.ins o.outs s h) (ap is_whole_state is)
entry_some o (S.Keyed places) s is h = eligible_with o s (input_some o.ins o.outs s h) (ap is_whole_state is)
entry_some o S.Whole s is h = absurd cc

entry_none : (o : Operator) (state : StateKind) → SomeInEach o.ins → state_of o ≡ state → entry_of o.ins o.outs state ≡ None → is_eligible o ≡ false
entry_none o S.Stateless some is h = input_none o.ins o.outs (not (is_whole_state (state_of o))) some h
entry_none o (S.Keyed places) some is h = input_none o.ins o.outs (not (is_whole_state (state_of o))) some h
entry_none o S.Whole some is h =
    and_right (is_one (connections o)) (is_one o.outs && not (is_whole_state (state_of o)))
    (and_right (is_one o.outs) (not (is_whole_state (state_of o))) (ap (λ state. not (is_whole_state state)) is))

-- an operator of the graph by its number
pub by_number : (c : CheckedGraph) (g : Graph) → Keeps c → graph_of c ≡ g → (n : ℕ) → n < length c.parts → (o : Operator) × (slice_get g.ops n ≡ Some o)
by_number c g keeps e n within = get_below g.ops n (let same = same_length c g keeps e in let parts = keeps.parts in omega arith)

-- that reads this stream and may stand in a region
pub candidate : (c : CheckedGraph) (g : Graph) → Keeps c → graph_of c ≡ g → (counts : List ℕ) (n stream : ℕ) (state : StateKind) (o : Operator) → AreReadings g counts
    → length counts ≡ length c.graph.streams → slice_get g.ops n ≡ Some o → state_of o ≡ state → entry_of o.ins o.outs state ≡ Some stream → IsCandidate g counts n stream state o
candidate c g keeps e counts n stream state o counted many at is h =
    let may = entry_some o state stream is h in
    let own = operator_at c g e n o at in
    let ins : concat own.op.ins ≡ stream ∷ [] = sym (ap connections own.same) ∙ may.1 in
    let below = keeps.graph.taken n own.op own.there stream (subst (λ ss. Contains ss stream) (sym ins) (contains_here stream [])) in
    record { there = at; state_is = is; eligible = may.0; reads = may.1; counted = counted; within = omega arith }

pub eligible_one : (g : Graph) (n : ℕ) (o : Operator) → slice_get g.ops n ≡ Some o → (chains_of g).eligible n ≡ is_eligible o
eligible_one g n o at = ap (λ found. option_map_or is_eligible found false) at

pub settled : (g : Graph) (old : Choice) (n : ℕ) (new : Choice) → (chains_of g).eligible n ≡ true → IsPlaced g old n new → IsSettled g old n new
settled g old n new eligible h = record { standing = h.standing; numbers = h.numbers ∙ ap (λ b. placed_if b (chains_of g) (numbers_of old) n) (sym eligible) }

-- and one that may not
pub passed_over : (c : CheckedGraph) (g : Graph) → Keeps c → graph_of c ≡ g → (old : Choice) (n : ℕ) (state : StateKind) (o : Operator) → IsStanding g old → slice_get g.ops n ≡ Some o
    → state_of o ≡ state → entry_of o.ins o.outs state ≡ None → IsSettled g old n old
passed_over c g keeps e old n state o standing at is h =
    let own = operator_at c g e n o at in
    let fit = keeps.operators n own.op own.part own.there own.has in
    let some : SomeInEach o.ins = subst SomeInEach (sym (ap (λ (o : Operator). o.ins) own.same)) (ports_some c.schemas own.op.ins fit.ins fit.takes) in
    let never : (chains_of g).eligible n ≡ false = eligible_one g n o at ∙ entry_none o state some is h in
    record { standing = standing; numbers = ap (λ b. placed_if b (chains_of g) (numbers_of old) n) (sym never) }

-- before the first operator
pub none_standing : (g : Graph) (places : List (Option ℕ)) → length places ≡ length g.ops → IsStanding g (record { regions = []; places = places })
none_standing g places many = record { grown = λ i r at. absurd cc; placed = λ i r n at among. absurd cc; eligible = λ i r n at among. absurd cc; many = many }

-- ---- the order

pub topo_within : (c : CheckedGraph) → Keeps c → (items : List ℕ) → items ≡ c.graph.topo → (i : ℕ) → i < length items → get_or items i 0 < length c.parts
topo_within c keeps items same i lt =
    let below : i < length c.graph.topo = (let l = ap length same in omega arith) in
    let within = (keeps.graph.ordered.all (get_or c.graph.topo i 0)).0 (contains_at c.graph.topo i below) in
    let parts = keeps.parts in
    let item : get_or items i 0 ≡ get_or c.graph.topo i 0 = ap (λ (ns : List ℕ). get_or ns i 0) same in
    omega arith

pub settled_next : (c : CheckedGraph) (g : Graph) → Keeps c → graph_of c ≡ g → (items : List ℕ) → items ≡ c.graph.topo → (i : ℕ) → i < length items → (old new : Choice)
    → numbers_of old ≡ chosen_from (chains_of g) [] (take i c.graph.topo) → (IsOutside old (get_or items i 0) → IsSettled g old (get_or items i 0) new)
    → IsStanding g new × (numbers_of new ≡ chosen_from (chains_of g) [] (take (i + 1) c.graph.topo))
settled_next c g keeps e items same i lt old new numbers settles =
    let n : ℕ = get_or items i 0 in
    let below : i < length c.graph.topo = (let l = ap length same in omega arith) in
    let item : n ≡ get_or c.graph.topo i 0 = ap (λ (ns : List ℕ). get_or ns i 0) same in
    let whole : g.topo ≡ take i c.graph.topo ++ n ∷ drop (i + 1) c.graph.topo =
    same_topo c g e ∙ sym (take-append-drop i c.graph.topo) ∙ ap (λ (rest : List ℕ). take i c.graph.topo ++ rest) (drop_more c.graph.topo i 0 below)
    ∙ ap (λ m. take i c.graph.topo ++ m ∷ drop (i + 1) c.graph.topo) (sym item) in
    let h = settles (still_outside (chains_of g) old (take i c.graph.topo) (drop (i + 1) c.graph.topo) n ((sound c g keeps e).once n) whole numbers) in (
      h.standing,
      h.numbers ∙ ap (λ ns. placed_if ((chains_of g).eligible n) (chains_of g) ns n) numbers ∙ sym (chosen_more (chains_of g) [] (take i c.graph.topo) n)
          ∙ ap (chosen_from (chains_of g) []) (ap (λ m. take i c.graph.topo ++ m ∷ []) item ∙ sym (take_more c.graph.topo i 0 below)),
    )

pub plan_is : (c : CheckedGraph) (g : Graph) → Keeps c → graph_of c ≡ g → (choice : Choice) → IsStanding g choice → numbers_of choice ≡ chosen_from (chains_of g) [] c.graph.topo
    → IsPlan g (map region_of choice.regions)
plan_is c g keeps e choice standing numbers =
    let all : numbers_of choice ≡ chosen (chains_of g) = numbers ∙ ap (chosen_from (chains_of g) []) (sym (same_topo c g e)) in
    subst (IsPlan g) (sym (regions_are g choice.regions standing.grown ∙ ap (map (made g)) all))
    (made_plan g (sound c g keeps e) (all_valid c g keeps e) (chosen (chains_of g)) (chosen_law (chains_of g) (sound c g keeps e)))
