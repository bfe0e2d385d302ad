-- The leader of an operator stands in the piece that takes the operator.
use Rattle.std.proofs.Common.{ℕ, zero, suc, ◌+◌, ◌<◌, ◌==◌, ◌&&◌, ◌||◌, not, Bool, true, false, cond, List, [], ◌∷◌, ◌++◌, ◌≡◌, ◌⊎◌, inl, inr, refl, sym, ap, ◌∙◌, subst, arith, length, replicate, Option, None, Some, option_map, slice_get}
use Rattle.std.specs.List.{concat, Contains}
use Rattle.std.specs.Option.{option_and_then, option_map_or}
use Rattle.std.proofs.lemmas.Bool.{cases_Bool, eqb-true, eq-eqb, and_from, and_parts, cond-true, cond-false, both_ways}
use Rattle.std.proofs.lemmas.List.{length-replicate}
use Rattle.std.proofs.lemmas.Option.{slice_get_within}
use Rattle.spl_tree.specs.declared.graph.Op.{Op}
use Rattle.spl_tree.specs.declared.graph.Stream.{Stream}
use Rattle.language_model.specs.CheckedGraph.{CheckedGraph}
use Rattle.language_model.specs.Keeping.{Keeps}
use Rattle.stream_model.specs.declared.plan.Region.{Region}
use Rattle.stream_model.specs.CheckedMeaning.{graph_of}
use Rattle.stream_model.specs.Operators.{Operator, connections}
use Rattle.stream_model.specs.Meaning.{Graph, in_topo}
use Rattle.stream_model.specs.Laws.{makes_stream}
use Rattle.stream_model.specs.Regions.{IsPlan, how_often}
use Rattle.stream_model.proofs.GraphParts.{operator_at, same_length}
use Rattle.list_engine.proofs.GraphOperators.{operator_there}
use Rattle.list_engine.proofs.Orders.{any_from_contains, made_as, one_maker}
use Rattle.network_model.specs.Networks.{last_of}
use Rattle.network_model.specs.Wiring.{Stands}
use Rattle.pe_fusion.specs.Fusing.{AreFused, AreRegions, Each, Fused, GraphFits, Regional, TakesAlone}
use Rattle.pe_fusion.specs.Pieces.{Piece, fuses, in_region, is_among, takes_alone, last_in, ops_in, replicated, share_region, takes}
use Rattle.pe_fusion.specs.Readers.{readers}
use Rattle.pe_fusion.specs.Shapes.{numbers}
use Rattle.pe_fusion.specs.Totals.{one_if, times}
use Rattle.pe_fusion.specs.declared.regions.OperatorRegion.{OperatorRegion}
use Rattle.pe_fusion.specs.declared.pieces.Placement.{Placement}
use Rattle.pe_fusion.specs.steps.Placing.{fused_maker, has_one_output, has_one_reader, leader, leader_by, maker_of, place_of, producer_of, region_of, sole_stream, unless_in}
use Rattle.pe_fusion.specs.steps.Reading.{Table}
use Rattle.pe_fusion.specs.steps.Regions.{enter_all, operator_region}
use Rattle.pe_fusion.proofs.Totals.{some-one, total-at, total-found}
use Rattle.pe_fusion.proofs.Often.{often-append, often-here, often-in, times-often, total-often}
use Rattle.pe_fusion.proofs.Chains.{any-at, each-at, inner-none, makes-parts, one-port}
use Rattle.pe_fusion.proofs.PlanParts.{region_chain, regions_law, replicated-at}
use Rattle.pe_fusion.proofs.Checked.{fits_law}
use Rattle.pe_fusion.proofs.RegionPieces.{begins, fused-stands, in-plan, inside-is, last-stands, new-op, plain-test, region-test, test-region}
use Rattle.pe_fusion.proofs.ReadTables.{table-at, table_of}
use Rattle.pe_fusion.proofs.RegionTables.{enter-none, enter-own, in_plan}
use Rattle.pe_fusion.proofs.Numbered.{Mirrors, back, here-is}

last-at : (op : Operator) (ops : List Operator) → (i : ℕ) × (slice_get (op ∷ ops) i ≡ Some (last_of op ops))
last-at op [] = (0, refl)
last-at op (next ∷ ops) = let k = last-at next ops in (suc k.0, k.1)

single : (xs : List ℕ) (i s : ℕ) → length xs ≡ 1 → slice_get xs i ≡ Some s → xs ≡ s ∷ []
single [] i s e at = absurd (cc)
single (x ∷ []) zero s e at = let same : x ≡ s = cc in ap (λ z. z ∷ []) same
single (x ∷ []) (suc i) s e at = absurd (cc)
single (x ∷ y ∷ xs) i s e at = absurd (let k : suc (suc (length xs)) ≡ 1 = e in omega (arith, k))

-- ---- what a leader is

record Follows (ins : List (List ℕ)) (s : ℕ) : Type 0 where
  pub are : ins ≡ (s ∷ []) ∷ []

sole-is : (ins : List (List ℕ)) (s : ℕ) → sole_stream ins ≡ Some s → Follows ins s
sole-is [] s e = absurd (cc)
sole-is ([] ∷ ins) s e = absurd (cc)
sole-is ((t ∷ []) ∷ []) s e = let same : t ≡ s = cc in record { are = ap (λ z. (z ∷ []) ∷ []) same }
sole-is ((t ∷ []) ∷ more ∷ ins) s e = absurd (cc)
sole-is ((t ∷ u ∷ streams) ∷ ins) s e = absurd (cc)

-- the maker of a stream, with what makes it a leader
record MakerIs (c : CheckedGraph) (table : List (Option OperatorRegion)) (rs : Table) (s m : ℕ) : Type 0 where
  pub maker : maker_of c.graph.streams s ≡ Some m
  pub one_reader : has_one_reader rs s ≡ true
  pub one_output : has_one_output c.graph.ops m ≡ true
  pub outside : region_of table m ≡ None

unless-is : (o : Option OperatorRegion) (n m : ℕ) → unless_in o n ≡ Some m → (o ≡ None) × (n ≡ m)
unless-is None n m e = (refl, cc)
unless-is (Some r) n m e = absurd (cc)

maker-is : (c : CheckedGraph) (table : List (Option OperatorRegion)) (rs : Table) (s m : ℕ) → fused_maker c.graph table rs s ≡ Some m → MakerIs c table rs s m
maker-is c table rs s m e = go (maker_of c.graph.streams s) refl
  where
    test : ℕ → Bool
    test n = has_one_reader rs s && has_one_output c.graph.ops n

    on : (n : ℕ) (b : Bool) → has_one_reader rs s && has_one_output c.graph.ops n ≡ b → maker_of c.graph.streams s ≡ Some n → cond b (unless_in (region_of table n) n) None ≡ Some m → MakerIs c table rs s m
    on n true both made f =
        let k = and_parts (has_one_reader rs s) (has_one_output c.graph.ops n) both in
        let u = unless-is (region_of table n) n m f in
        record { maker = made ∙ ap (λ z. Some z) u.1; one_reader = k.0; one_output = ap (has_one_output c.graph.ops) (sym u.1) ∙ k.1; outside = ap (region_of table) (sym u.1) ∙ u.0 }
    on n false both made f = absurd (cc)

    go : (o : Option ℕ) → maker_of c.graph.streams s ≡ o → MakerIs c table rs s m
    go None none = absurd (let k : None ≡ Some m = ap (option_and_then (λ n. cond (has_one_reader rs s && has_one_output c.graph.ops n) (unless_in (region_of table n) n) None)) (sym none) ∙ e in cc)
    go (Some n) made = on n (has_one_reader rs s && has_one_output c.graph.ops n) refl made (ap (option_and_then (λ n. cond (has_one_reader rs s && has_one_output c.graph.ops n) (unless_in (region_of table n) n) None)) (sym made) ∙ e)

record ProducerIs (c : CheckedGraph) (table : List (Option OperatorRegion)) (rs : Table) (ins : List (List ℕ)) (m : ℕ) : Type 0 where
  pub stream : ℕ
  pub reads : ins ≡ (stream ∷ []) ∷ []
  pub made : MakerIs c table rs stream m

producer-is : (c : CheckedGraph) (table : List (Option OperatorRegion)) (rs : Table) (ins : List (List ℕ)) (m : ℕ) → producer_of c.graph table rs ins ≡ Some m → ProducerIs c table rs ins m
producer-is c table rs ins m e = go (sole_stream ins) refl
  where
    go : (o : Option ℕ) → sole_stream ins ≡ o → ProducerIs c table rs ins m
    go None none = absurd (let k : None ≡ Some m = ap (option_and_then (fused_maker c.graph table rs)) (sym none) ∙ e in cc)
    go (Some s) some = record { stream = s; reads = (sole-is ins s some).are; made = maker-is c table rs s m (ap (option_and_then (fused_maker c.graph table rs)) (sym some) ∙ e) }

-- ---- the table of regions of a plan

module _ (c : CheckedGraph) (k : Keeps c) (plan : List Region) (w : ℕ) (is : IsPlan (graph_of c) plan) where
  abbrev pub g : Graph
  g = graph_of c

  abbrev pub regions : List Region
  regions = replicated w plan

  abbrev pub table : List (Option OperatorRegion)
  table = enter_all w 0 plan (replicate (length c.graph.ops) None)

  pub fits : GraphFits g
  fits = fits_law c k

  pub are : AreRegions g regions
  are = regions_law g plan w (fits_law c k) is

  -- an operator of a region has a place in the graph
  pub plan-below : (j n : ℕ) (q : Region) → slice_get plan j ≡ Some q → Contains q.ops n → n < length c.graph.ops
  plan-below j n q at h =
      let r = region_chain g (fits_law c k) plan j q is at in
      let some : 0 < how_often n (numbers (r.first ∷ r.behind)) = subst (λ ns. 0 < how_often n ns) (sym r.numbers) (often-in n q.ops (any_from_contains n q.ops h)) in
      let all = times-often n (r.first ∷ r.behind) in
      let found = total-found (λ (o : Operator). one_if (o.number == n)) (r.first ∷ r.behind) (omega (arith, all, some)) in
      let number = eqb-true (found.item).number n (some-one ((found.item).number == n) found.counts) in
      let there = (fits_law c k).there found.item (fused-stands g r.first r.behind r.stands r.fused found.at found.item found.is) in
      let lt = slice_get_within g.ops (found.item).number found.item there in
      let same = same_length c g k refl in
      omega (arith, lt, same, number)

  pub record OwnRegion (r : Region) (n : ℕ) : Type 0 where
    pub place : ℕ
    pub at : slice_get plan place ≡ Some r
    pub first : ℕ
    pub ids : List ℕ
    pub ops : r.ops ≡ first ∷ ids
    pub found : region_of table n ≡ Some (operator_region w place r first)

  pub region-own : (j n : ℕ) (r : Region) → slice_get regions j ≡ Some r → 0 < how_often n r.ops → OwnRegion r n
  region-own j n r at has =
      let a = replicated-at plan w j r at in
      let chain = are.chains j r at in
      let many = length-replicate {A = Option OperatorRegion} (length c.graph.ops) None in
      let own = enter-own w 0 a.0 plan (replicate (length c.graph.ops) None) r (chain.first).number (numbers chain.behind) n a.1 (sym chain.numbers) a.2
      (λ i m q there h. let lt = plan-below i m q there h in omega (arith, lt, many)) (are.once n) has in
      record {
        place = a.0;
        at = a.1;
        first = (chain.first).number;
        ids = numbers chain.behind;
        ops = sym chain.numbers;
        found = own ∙ ap (λ i. Some (operator_region w i r (chain.first).number)) (let e : 0 + a.0 ≡ a.0 = omega arith in e);
      }

  pub region-none : (n : ℕ) → in_region regions n ≡ false → region_of table n ≡ None
  region-none n off = enter-none w (length c.graph.ops) plan n (go (in_plan n regions) refl)
    where
      go : (i : ℕ) → in_plan n regions ≡ i → in_plan n regions ≡ 0
      go zero e = e
      go (suc i) e =
          let all = total-often n regions in
          let found = total-found (λ (r : Region). how_often n r.ops) regions (omega (arith, all, e)) in
          absurd (both_ways (in_region regions n) off (in-plan g (fits_law c k) regions are found.at n found.item found.is found.counts))

  pub none-region : (n : ℕ) → region_of table n ≡ None → in_region regions n ≡ false
  none-region n none = go (cases_Bool (in_region regions n)) (total-found-in n)
    where
      total-found-in : (m : ℕ) → in_region regions m ≡ true → (j : ℕ) × (r : Region) × (slice_get regions j ≡ Some r) × (0 < how_often m r.ops)
      total-found-in m e = any-in regions m e
        where
          any-in : (rs : List Region) (m : ℕ) → in_region rs m ≡ true → (j : ℕ) × (r : Region) × (slice_get rs j ≡ Some r) × (0 < how_often m r.ops)
          any-in [] m e = absurd (cc)
          any-in (r ∷ rs) m e = pick (is_among m r.ops) refl e (any-in rs m)
            where
              pick : (b : Bool) → is_among m r.ops ≡ b → (b || in_region rs m) ≡ true → (in_region rs m ≡ true → (j : ℕ) × (q : Region) × (slice_get rs j ≡ Some q) × (0 < how_often m q.ops))
                  → (j : ℕ) × (q : Region) × (slice_get (r ∷ rs) j ≡ Some q) × (0 < how_often m q.ops)
              pick true a e later = (0, r, refl, often-in m r.ops a)
              pick false a e later = let x = later e in (suc x.0, x.1, x.2, x.3)

      go : (in_region regions n ≡ true) ⊎ (in_region regions n ≡ false) → (in_region regions n ≡ true → (j : ℕ) × (r : Region) × (slice_get regions j ≡ Some r) × (0 < how_often n r.ops)) → in_region regions n ≡ false
      go (inl e) inside = let x = inside e in let own = region-own x.0 n x.1 x.2 x.3 in absurd (let clash : None ≡ Some (operator_region w own.place x.1 own.first) = sym none ∙ own.found in cc)
      go (inr e) inside = e

  -- ---- the leader of an operator outside regions

  of-producer : (op : Operator) → Stands g op → in_region regions op.number ≡ false
      → (ins : List (List ℕ)) → op.ins ≡ ins → leader c.graph table (table_of c) op.number ≡ producer_of c.graph table (table_of c) ins
  of-producer op stands out ins e =
      let x = operator_at c g refl op.number op (fits.there op stands) in
      let own : x.op.ins ≡ ins = sym (ap (λ (o : Operator). o.ins) x.same) ∙ e in
      ap (λ r. leader_by r (option_and_then (λ (o : Op). producer_of c.graph table (table_of c) o.ins) (slice_get c.graph.ops op.number))) (region-none op.number out)
      ∙ ap (option_and_then (λ (o : Op). producer_of c.graph table (table_of c) o.ins)) x.there
      ∙ ap (producer_of c.graph table (table_of c)) own

  producer-leads : (q op : Operator) → TakesAlone g q op → Stands g q → Stands g op → in_region regions q.number ≡ false → in_region regions op.number ≡ false
      → leader c.graph table (table_of c) op.number ≡ Some q.number
  producer-leads q op t stands own_stands off out =
      let s : ℕ = t.stream in
      let ins : op.ins ≡ (s ∷ []) ∷ [] = one-port op.ins s (λ i streams at. fits.ports op i streams own_stands at) t.ins in
      let at = fits.there q stands in
      let makes : makes_stream q s ≡ true = any-at (λ o. o == s) q.outs 0 s (ap (λ os. slice_get os 0) t.outs) (eq-eqb s s refl) in
      let x = made_as c g refl q.number s q at makes in
      let made : slice_get c.graph.streams s ≡ Some x.0 = (k.graph.made s x.0).1 x.2 in
      let maker : maker_of c.graph.streams s ≡ Some q.number = ap (option_map (λ (z : Stream). z.maker)) made ∙ ap (λ z. Some z) x.1 in
      let reader : has_one_reader (table_of c) s ≡ true =
      ap (λ o. option_map_or (λ (rs : List (ℕ × ℕ)). length rs == 1) o false) (table-at c k s (slice_get_within c.graph.streams s x.0 made)) ∙ eq-eqb (length (readers g s)) 1 t.alone in
      let o = operator_at c g refl q.number q at in
      let outs : o.op.outs ≡ s ∷ [] = sym (ap (λ (z : Operator). z.outs) o.same) ∙ t.outs in
      let output : has_one_output c.graph.ops q.number ≡ true =
      ap (λ z. option_map_or (λ (p : Op). length p.outs == 1) z false) o.there ∙ eq-eqb (length o.op.outs) 1 (ap length outs) in
      of-producer op own_stands out ((s ∷ []) ∷ []) ins
      ∙ ap (option_and_then (λ n. cond (has_one_reader (table_of c) s && has_one_output c.graph.ops n) (unless_in (region_of table n) n) None)) maker
      ∙ cond-true (has_one_reader (table_of c) s && has_one_output c.graph.ops q.number) (unless_in (region_of table q.number) q.number) None (and_from (has_one_reader (table_of c) s) (has_one_output c.graph.ops q.number) reader output)
      ∙ ap (λ r. unless_in r q.number) (region-none q.number off)

  -- what is known of the operator that leads
  record Leads (op : Operator) (m : ℕ) : Type 0 where
    pub producer : Operator
    pub there : slice_get g.ops m ≡ Some producer
    pub stream : ℕ
    pub outs : producer.outs ≡ stream ∷ []
    pub ins : connections op ≡ stream ∷ []
    pub alone : length (readers g stream) ≡ 1
    pub outside : in_region regions m ≡ false

  leads-is : (op : Operator) (m : ℕ) → Stands g op → in_region regions op.number ≡ false → leader c.graph table (table_of c) op.number ≡ Some m → Leads op m
  leads-is op m stands out e =
      let p = producer-is c table (table_of c) op.ins m (sym (of-producer op stands out op.ins refl) ∙ e) in
      from p.stream p.reads p.made (slice_get c.graph.streams p.stream) refl
    where
      from : (s : ℕ) → op.ins ≡ (s ∷ []) ∷ [] → MakerIs c table (table_of c) s m → (found : Option Stream) → slice_get c.graph.streams s ≡ found → Leads op m
      from s ins made None none = absurd (let k : None ≡ Some m = ap (option_map (λ (z : Stream). z.maker)) (sym none) ∙ made.maker in cc)
      from s ins made (Some st) some =
          let maker : Some st.maker ≡ Some m = ap (option_map (λ (z : Stream). z.maker)) (sym some) ∙ made.maker in
          let number : st.maker ≡ m = cc in
          let made_as_is = (k.graph.made s st).0 some in
          let at : slice_get c.graph.ops m ≡ Some made_as_is.0 = ap (slice_get c.graph.ops) (sym number) ∙ made_as_is.1 in
          let there = operator_there c g k refl m (slice_get_within c.graph.ops m made_as_is.0 at) in
          let x = operator_at c g refl m there.0 there.1 in
          let both : Some x.op ≡ Some made_as_is.0 = sym x.there ∙ at in
          let same : x.op ≡ made_as_is.0 = cc in
          let one : (length (made_as_is.0).outs == 1) ≡ true = ap (λ z. option_map_or (λ (p : Op). length p.outs == 1) z false) (sym at) ∙ made.one_output in
          let read : (length (readers g s) == 1) ≡ true =
          ap (λ o. option_map_or (λ (rs : List (ℕ × ℕ)). length rs == 1) o false) (sym (table-at c k s (slice_get_within c.graph.streams s st some))) ∙ made.one_reader in
          record {
            producer = there.0;
            there = there.1;
            stream = s;
            outs = ap (λ (o : Operator). o.outs) x.same ∙ ap (λ (o : Op). o.outs) same ∙ single (made_as_is.0).outs st.port s (eqb-true (length (made_as_is.0).outs) 1 one) made_as_is.2;
            ins = ap concat ins;
            alone = eqb-true (length (readers g s)) 1 read;
            outside = none-region m made.outside;
          }

  -- ---- a step

  module _ (done rest : List Operator) (op : Operator) (pieces : List Piece) (split : in_topo g ≡ done ++ op ∷ rest) (h : AreFused g done pieces) (regional : Each (Regional regions) pieces)
      (state : Placement) (m : Mirrors table done pieces state) (below : op.number < length state.places) where
    abbrev pub candidate : Option ℕ
    candidate = option_and_then (place_of state.places) (leader c.graph table (table_of c) op.number)

    own : Stands g op
    own = record { before = done; behind = rest; are = split }

    piece-at : (j : ℕ) (p : Piece) → slice_get pieces j ≡ Some p → Stands g p.first × Fused g p.first p.behind
    piece-at j p at = each-at (λ p. Stands g p.first × Fused g p.first p.behind) pieces j p h.fused at

    led-by : (n : ℕ) → leader c.graph table (table_of c) op.number ≡ Some n → candidate ≡ place_of state.places n
    led-by n e = ap (option_and_then (place_of state.places)) e

    region-leads : (j : ℕ) (r : Region) → slice_get regions j ≡ Some r → 0 < how_often op.number r.ops → (own_r : OwnRegion r op.number) → leader c.graph table (table_of c) op.number ≡ Some own_r.first
    region-leads j r there inside own_r = ap (λ o. leader_by o (option_and_then (λ (o : Op). producer_of c.graph table (table_of c) o.ins) (slice_get c.graph.ops op.number))) own_r.found

    -- the last operator of a piece whose first one is outside regions is outside too
    all-outside : (j : ℕ) (p : Piece) → slice_get pieces j ≡ Some p → in_region regions p.first.number ≡ false → (i : ℕ) (o : Operator) → slice_get (ops_in p) i ≡ Some o → in_region regions o.number ≡ false
    all-outside j p at out i o there = go (each-at (Regional regions) pieces j p regional at) (cases_Bool (in_region regions o.number))
      where
        go : Regional regions p → (in_region regions o.number ≡ true) ⊎ (in_region regions o.number ≡ false) → in_region regions o.number ≡ false
        go (inl none) (inl e) =
            let here = total-at (λ (o : Operator). one_if (in_region regions o.number)) (ops_in p) i o there in
            let one : one_if (in_region regions o.number) ≡ 1 = ap one_if e in
            absurd (omega (arith, none, here, one))
        go (inr b) (inl e) =
            let has : 0 < how_often p.first.number (b.region).ops = subst (λ ns. 0 < how_often p.first.number ns) b.are (let q = often-here p.first.number (numbers p.behind ++ b.rest) in omega (arith, q)) in
            absurd (both_ways (in_region regions p.first.number) out (in-plan g fits regions are b.place p.first.number b.region b.at has))
        go (inl none) (inr e) = e
        go (inr b) (inr e) = e

    pub found : (j : ℕ) (p : Piece) → slice_get pieces j ≡ Some p → takes g regions p op ≡ true → candidate ≡ Some j
    found j p at t = go (cases_Bool (in_region regions op.number))
      where
        go : (in_region regions op.number ≡ true) ⊎ (in_region regions op.number ≡ false) → candidate ≡ Some j
        go (inl e) =
            let x = inside-is g fits regions are done rest op pieces split h regional e in
            let own_r = region-own x.0 op.number x.1 x.2 x.3 in
            let b = begins g fits regions are done rest op pieces split h regional j x.0 p x.1 at x.2 p.first.number (let q = often-here p.first.number (numbers p.behind) in omega (arith, q))
            (region-test g fits regions are done rest op pieces split h regional x.0 x.1 x.2 x.3 p t) in
            let whole : p.first.number ∷ (numbers p.behind ++ b.0) ≡ own_r.first ∷ own_r.ids = b.1 ∙ own_r.ops in
            let first : own_r.first ≡ p.first.number = cc in
            led-by own_r.first (region-leads x.0 x.1 x.2 x.3 own_r) ∙ ap (place_of state.places) first
            ∙ here-is g fits regions are table done rest op pieces split h regional state m below j p.first.number p at (let q = often-here p.first.number (numbers p.behind) in omega (arith, q))
        go (inr e) =
            let pt = plain-test g fits regions are done rest op pieces split h regional e p t in
            let s = piece-at j p at in
            let stands = last-stands g p.first p.behind s.0 s.1 in
            let last = last-at p.first p.behind in
            let off = all-outside j p at pt.0 last.0 (last_in p) last.1 in
            let all = times-often (last_in p).number (ops_in p) in
            let there = total-at (λ (o : Operator). one_if (o.number == (last_in p).number)) (ops_in p) last.0 (last_in p) last.1 in
            let one : one_if ((last_in p).number == (last_in p).number) ≡ 1 = ap one_if (eq-eqb (last_in p).number (last_in p).number refl) in
            led-by (last_in p).number (producer-leads (last_in p) op pt.1 stands own off e)
            ∙ here-is g fits regions are table done rest op pieces split h regional state m below j (last_in p).number p at (omega (arith, all, there, one))

    -- a piece with the producer that leads ends with it
    last-leads : (j n : ℕ) (p : Piece) → slice_get pieces j ≡ Some p → 0 < how_often n (numbers (ops_in p)) → Leads op n → fuses g (last_in p) op ≡ true
    last-leads j n p at has l =
        let s : ℕ = l.stream in
        let q = piece-at j p at in
        let free = new-op g fits regions are done rest op pieces split h regional j p at in
        let first_all = often-append op.number (p.first.number ∷ []) (numbers p.behind) in
        let behind : times (λ (o : Operator). o.number == op.number) p.behind ≡ 0 = (let a = times-often op.number p.behind in let z : how_often op.number (p.first.number ∷ numbers p.behind) ≡ 0 = free in omega (arith, a, first_all, z)) in
        let inner = inner-none g fits op.number 0 s op p.first p.behind (fits.there op own) (ap (λ ss. slice_get ss 0) l.ins) q.1 behind in
        let all = times-often n (ops_in p) in
        let found_n = total-found (λ (o : Operator). one_if (o.number == n)) (ops_in p) (omega (arith, all, has)) in
        let number = eqb-true (found_n.item).number n (some-one ((found_n.item).number == n) found_n.counts) in
        let there : slice_get g.ops n ≡ Some found_n.item = ap (slice_get g.ops) (sym number) ∙ fits.there found_n.item (fused-stands g p.first p.behind q.0 q.1 found_n.at found_n.item found_n.is) in
        let both : Some found_n.item ≡ Some l.producer = sym there ∙ l.there in
        let same : found_n.item ≡ l.producer = cc in
        let made = total-at (λ (o : Operator). times (λ t. t == s) o.outs) (ops_in p) found_n.at found_n.item found_n.is in
        let outs : times (λ t. t == s) (found_n.item).outs ≡ one_if (s == s) + 0 = ap (λ (o : Operator). times (λ t. t == s) o.outs) same ∙ ap (times (λ t. t == s)) l.outs in
        let one : one_if (s == s) ≡ 1 = ap one_if (eq-eqb s s refl) in
        let parts = makes-parts s p.first p.behind in
        let found_s = total-found (λ t. one_if (t == s)) (last_in p).outs (omega (arith, inner, made, outs, one, parts)) in
        let makes : makes_stream (last_in p) s ≡ true = any-at (λ o. o == s) (last_in p).outs found_s.at found_s.item found_s.is (some-one (found_s.item == s) found_s.counts) in
        let producer_makes : makes_stream l.producer s ≡ true = any-at (λ o. o == s) (l.producer).outs 0 s (ap (λ os. slice_get os 0) l.outs) (eq-eqb s s refl) in
        let last_there = fits.there (last_in p) (last-stands g p.first p.behind q.0 q.1) in
        let equal = one_maker c g k refl (last_in p).number n s (last_in p) l.producer last_there l.there makes producer_makes in
        let at_n : slice_get g.ops n ≡ Some (last_in p) = ap (slice_get g.ops) (sym equal) ∙ last_there in
        let last_both : Some (last_in p) ≡ Some l.producer = sym at_n ∙ l.there in
        let last_is : last_in p ≡ l.producer = cc in
        (λ i. fuses g (last_is i) op)
        ∙ (λ i. takes_alone g (l.outs i) (l.ins i))
        ∙ and_from (s == s) (length (readers g s) == 1) (eq-eqb s s refl) (eq-eqb (length (readers g s)) 1 l.alone)

    pub right : (j : ℕ) → candidate ≡ Some j → (p : Piece) × (slice_get pieces j ≡ Some p) × (takes g regions p op ≡ true)
    right j e = go (cases_Bool (in_region regions op.number))
      where
        led : (o : Option ℕ) → leader c.graph table (table_of c) op.number ≡ o → in_region regions op.number ≡ false → (p : Piece) × (slice_get pieces j ≡ Some p) × (takes g regions p op ≡ true)
        led None none out = absurd (let no : None ≡ Some j = ap (option_and_then (place_of state.places)) (sym none) ∙ e in cc)
        led (Some n) some out =
            let l = leads-is op n own out some in
            let b = back g fits regions are table done rest op pieces split h regional state m below j n (sym (led-by n some) ∙ e) in
            let off = first-outside b.0 b.1 b.2 l.outside in (
              b.0,
              b.1,
              cond-false (in_region regions op.number) (share_region regions (b.0).first.number op.number) (not (in_region regions (b.0).first.number) && fuses g (last_in b.0) op) out
                  ∙ and_from (not (in_region regions (b.0).first.number)) (fuses g (last_in b.0) op) (ap not off) (last-leads j n b.0 b.1 b.2 l),
            )
          where
            first-outside : (p : Piece) → slice_get pieces j ≡ Some p → 0 < how_often n (numbers (ops_in p)) → in_region regions n ≡ false → in_region regions p.first.number ≡ false
            first-outside p at has off = pick (each-at (Regional regions) pieces j p regional at) (cases_Bool (in_region regions p.first.number))
              where
                pick : Regional regions p → (in_region regions p.first.number ≡ true) ⊎ (in_region regions p.first.number ≡ false) → in_region regions p.first.number ≡ false
                pick (inl none) (inl e) =
                    let here = total-at (λ (o : Operator). one_if (in_region regions o.number)) (ops_in p) 0 p.first refl in
                    let one : one_if (in_region regions p.first.number) ≡ 1 = ap one_if e in
                    absurd (omega (arith, none, here, one))
                pick (inr b) (inl e) =
                    let parts = often-append n (numbers (ops_in p)) b.rest in
                    let all : how_often n (numbers (ops_in p) ++ b.rest) ≡ how_often n (b.region).ops = ap (how_often n) b.are in
                    absurd (both_ways (in_region regions n) off (in-plan g fits regions are b.place n b.region b.at (omega (arith, parts, all, has))))
                pick (inl none) (inr e) = e
                pick (inr b) (inr e) = e

        go : (in_region regions op.number ≡ true) ⊎ (in_region regions op.number ≡ false) → (p : Piece) × (slice_get pieces j ≡ Some p) × (takes g regions p op ≡ true)
        go (inl inside) =
            let x = inside-is g fits regions are done rest op pieces split h regional inside in
            let own_r = region-own x.0 op.number x.1 x.2 x.3 in
            let b = back g fits regions are table done rest op pieces split h regional state m below j own_r.first (sym (led-by own_r.first (region-leads x.0 x.1 x.2 x.3 own_r)) ∙ e) in
            let first : 0 < how_often own_r.first (x.1).ops = subst (λ ns. 0 < how_often own_r.first ns) (sym own_r.ops) (let q = often-here own_r.first own_r.ids in omega (arith, q)) in
            let begun = begins g fits regions are done rest op pieces split h regional j x.0 b.0 x.1 b.1 x.2 own_r.first b.2 first in
            let in_it : 0 < how_often (b.0).first.number (x.1).ops =
            subst (λ ns. 0 < how_often (b.0).first.number ns) begun.1 (let q = often-here (b.0).first.number (numbers (b.0).behind ++ begun.0) in omega (arith, q)) in
            (b.0, b.1, test-region g fits regions are done rest op pieces split h regional x.0 x.1 x.2 x.3 b.0 in_it)
        go (inr out) = led (leader c.graph table (table_of c) op.number) refl out
