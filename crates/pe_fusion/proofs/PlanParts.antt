-- The regions of a plan are chains of its graph.
use Rattle.std.proofs.Common.{ℕ, zero, suc, ◌+◌, ◌≤◌, ◌==◌, ◌&&◌, ◌||◌, not, Bool, true, false, cond, List, [], ◌∷◌, ◌++◌, ◌≡◌, ◌⊎◌, inl, inr, refl, sym, ap, subst, ◌∙◌, arith, length, length-append, map, Option, Some, None, slice_get}
use Rattle.std.specs.Prelude.{filter}
use Rattle.std.specs.List.{concat, flat_map, list_any, list_all}
use Rattle.std.specs.Option.{option_map_or}
use Rattle.std.proofs.lemmas.Bool.{cases_Bool, eqb-true, eq-eqb, and_parts, or_cases}
use Rattle.std.proofs.lemmas.List.Elements.{filter-append}
use Rattle.spl_value.proofs.Lists.{all_at}
use Rattle.stream_model.specs.declared.plan.Region.{Region}
use Rattle.stream_model.specs.Stream.{is_empty}
use Rattle.stream_model.specs.Selectivity.{is_single}
use Rattle.stream_model.specs.StateKinds.{state_of, is_whole_state}
use Rattle.stream_model.specs.Operators.{Operator, connections}
use Rattle.stream_model.specs.Meaning.{Graph, in_topo}
use Rattle.stream_model.specs.Regions.{IsPlan, IsRegion, is_eligible, is_chain, any_keyed, chain_key, follows, ops_of, how_often}
use Rattle.pe_fusion.specs.Pieces.{is_replicated, replicated}
use Rattle.pe_fusion.specs.Totals.{times}
use Rattle.pe_fusion.specs.FusedNets.{entry_stream, first_stream, last_op}
use Rattle.pe_fusion.specs.Fusing.{Fused, GraphFits, RegionChain}
use Rattle.pe_fusion.specs.Readers.{readers, reads_at}
use Rattle.pe_fusion.specs.FusionLaws.{RegionsLaw, ChainLaw}
use Rattle.network_model.specs.Networks.{last_of}
use Rattle.network_model.specs.Wiring.{is_source, Stands}
use Rattle.pe_fusion.proofs.Chains.{one-port, path-is, stands-is}
use Rattle.pe_fusion.proofs.Often.{often-append, eligible-often}

-- ---- a region's operators are eligible

one_at_least : (n : ℕ) (ms ks : List ℕ) → 1 ≤ how_often n ms → 1 ≤ how_often n (ms ++ ks)
one_at_least n [] ks h = absurd (omega arith)
one_at_least n (m ∷ ms) ks h = go (m == n) h (one_at_least n ms ks) where
  go : (b : Bool) → 1 ≤ cond b (suc (how_often n ms)) (how_often n ms) → (1 ≤ how_often n ms → 1 ≤ how_often n (ms ++ ks)) → 1 ≤ cond b (suc (how_often n (ms ++ ks))) (how_often n (ms ++ ks))
  go true h rest = omega arith
  go false h rest = rest h

one_behind : (n : ℕ) (ms ks : List ℕ) → 1 ≤ how_often n ks → 1 ≤ how_often n (ms ++ ks)
one_behind n [] ks h = h
one_behind n (m ∷ ms) ks h = go (m == n) (one_behind n ms ks h) where
  go : (b : Bool) → 1 ≤ how_often n (ms ++ ks) → 1 ≤ cond b (suc (how_often n (ms ++ ks))) (how_often n (ms ++ ks))
  go true h = omega arith
  go false h = h

pub in_plan : (n : ℕ) (plan : List Region) (i : ℕ) (region : Region) → slice_get plan i ≡ Some region → 1 ≤ how_often n region.ops → 1 ≤ how_often n (concat (map (λ (r : Region). r.ops) plan))
in_plan n [] i region at h = absurd (let no : None ≡ Some region = at in cc)
in_plan n (r ∷ plan) zero region at h =
    let same : r ≡ region = cc in
    one_at_least n r.ops (concat (map (λ (r : Region). r.ops) plan)) (subst (λ (q : Region). 1 ≤ how_often n q.ops) (sym same) h)
in_plan n (r ∷ plan) (suc i) region at h = one_behind n r.ops (concat (map (λ (r : Region). r.ops) plan)) (in_plan n plan i region at h)

pub passes : (test : ℕ → Bool) (n : ℕ) (ms : List ℕ) → 1 ≤ how_often n (filter test ms) → test n ≡ true
passes test n [] h = absurd (omega arith)
passes test n (m ∷ ms) h = go (test m) refl h (passes test n ms) where
  here : (d : Bool) → (m == n) ≡ d → test m ≡ true → 1 ≤ cond d (suc (how_often n (filter test ms))) (how_often n (filter test ms))
      → (1 ≤ how_often n (filter test ms) → test n ≡ true) → test n ≡ true
  here true d e h rest = subst (λ z. test z ≡ true) (eqb-true m n d) e
  here false d e h rest = rest h

  go : (b : Bool) → test m ≡ b → 1 ≤ how_often n (cond b (m ∷ filter test ms) (filter test ms)) → (1 ≤ how_often n (filter test ms) → test n ≡ true) → test n ≡ true
  go true e h rest = here (m == n) refl e h rest
  go false e h rest = rest h

first-often : (n : ℕ) (ns : List ℕ) → 1 ≤ how_often n (n ∷ ns)
first-often n ns = let one : how_often n (n ∷ ns) ≡ suc (how_often n ns) = ap (λ b. cond b (suc (how_often n ns)) (how_often n ns)) (eq-eqb n n refl) in omega (arith, one)

-- these numbers are those of these operators
abbrev pub Named : Graph → List ℕ → List Operator → Type 0
Named g [] [] = Unit {0}
Named g [] (op ∷ ops) = ⊥
Named g (n ∷ ids) [] = ⊥
Named g (n ∷ ids) (op ∷ ops) = (slice_get g.ops n ≡ Some op) × Named g ids ops

record AreNamed (g : Graph) (ids : List ℕ) : Type 0 where
  pub ops : List Operator
  pub are : ops_of g ids ≡ ops
  pub named : Named g ids ops

named-is : (g : Graph) (ids : List ℕ) → ((n : ℕ) → 1 ≤ how_often n ids → option_map_or is_eligible (slice_get g.ops n) false ≡ true) → AreNamed g ids
named-is g [] there = record { ops = []; are = refl; named = tt }
named-is g (n ∷ ids) there = go (slice_get g.ops n) refl (there n (first-often n ids)) (named-is g ids (λ m h. there m (one_behind m (n ∷ []) ids h)))
  where
    go : (found : Option Operator) → slice_get g.ops n ≡ found → option_map_or is_eligible (slice_get g.ops n) false ≡ true → AreNamed g ids → AreNamed g (n ∷ ids)
    go None e h rest = absurd (let no : false ≡ true = ap (λ o. option_map_or is_eligible o false) (sym e) ∙ h in cc)
    go (Some op) e h rest = record { ops = op ∷ rest.ops; are = ap (λ o. option_map_or (λ op. op ∷ ops_of g ids) o (ops_of g ids)) e ∙ ap (λ ops. op ∷ ops) rest.are; named = (e, rest.named) }

-- ---- chains

record Single (xs : List ℕ) : Type 0 where
  pub item : ℕ
  pub is : xs ≡ item ∷ []

single-is : (xs : List ℕ) → is_single xs ≡ true → Single xs
single-is [] h = absurd (cc)
single-is (x ∷ []) h = record { item = x; is = refl }
single-is (x ∷ y ∷ xs) h = absurd (cc)

record Eligible (op : Operator) : Type 0 where
  pub reads : Single (connections op)
  pub makes : Single op.outs

eligible-is : (op : Operator) → is_eligible op ≡ true → Eligible op
eligible-is op h =
    let a = and_parts (is_single (connections op)) (is_single op.outs && not (is_whole_state (state_of op))) h in
    let b = and_parts (is_single op.outs) (not (is_whole_state (state_of op))) a.1 in
    record { reads = single-is (connections op) a.0; makes = single-is op.outs b.0 }

first-eligible : (g : Graph) (op : Operator) (ops : List Operator) → is_chain g (op ∷ ops) ≡ true → is_eligible op ≡ true
first-eligible g op [] h = h
first-eligible g op (next ∷ ops) h = (and_parts (is_eligible op) (follows g op next && is_chain g (next ∷ ops)) h).0

rest-chain : (g : Graph) (op next : Operator) (ops : List Operator) → is_chain g (op ∷ next ∷ ops) ≡ true → (follows g op next ≡ true) × (is_chain g (next ∷ ops) ≡ true)
rest-chain g op next ops h = and_parts (follows g op next) (is_chain g (next ∷ ops)) (and_parts (is_eligible op) (follows g op next && is_chain g (next ∷ ops)) h).1

last-makes : (g : Graph) (op : Operator) (ops : List Operator) → is_chain g (op ∷ ops) ≡ true → Single (last_of op ops).outs
last-makes g op [] h = (eligible-is op h).makes
last-makes g op (next ∷ ops) h = last-makes g next ops (rest-chain g op next ops h).1

reads-many : (n s k : ℕ) (streams : List ℕ) → length (reads_at n s k streams) ≡ length (filter (λ t. t == s) streams)
reads-many n s k [] = refl
reads-many n s k (t ∷ streams) = go (t == s) (reads-many n s (suc k) streams)
  where
    go : (b : Bool) → length (reads_at n s (suc k) streams) ≡ length (filter (λ t. t == s) streams)
        → length (cond b ((n, k) ∷ reads_at n s (suc k) streams) (reads_at n s (suc k) streams)) ≡ length (cond b (t ∷ filter (λ t. t == s) streams) (filter (λ t. t == s) streams))
    go true rest = ap suc rest
    go false rest = rest

readers-many : (s : ℕ) (ops : List Operator) → length (flat_map (λ (op : Operator). reads_at op.number s 0 (connections op)) ops) ≡ length (filter (λ t. t == s) (concat (map connections ops)))
readers-many s [] = refl
readers-many s (op ∷ ops) =
    length-append (reads_at op.number s 0 (connections op)) (flat_map (λ (op : Operator). reads_at op.number s 0 (connections op)) ops)
    ∙ ap (λ n. n + length (flat_map (λ (op : Operator). reads_at op.number s 0 (connections op)) ops)) (reads-many op.number s 0 (connections op))
    ∙ ap (λ n. length (filter (λ t. t == s) (connections op)) + n) (readers-many s ops)
    ∙ sym (length-append (filter (λ t. t == s) (connections op)) (filter (λ t. t == s) (concat (map connections ops))))
    ∙ ap length (sym (filter-append (λ t. t == s) (connections op) (concat (map connections ops))))

-- an operator that follows another one takes its stream alone
record Follows (g : Graph) (op next : Operator) : Type 0 where
  pub stream : ℕ
  pub makes : op.outs ≡ stream ∷ []
  pub reads : connections next ≡ stream ∷ []
  pub alone : length (readers g stream) ≡ 1

follows-is : (g : Graph) (op next : Operator) → Single op.outs → Single (connections next) → follows g op next ≡ true → Follows g op next
follows-is g op next outs ins h =
    let s : ℕ = outs.item in
    let all : list_all (λ s. list_any (λ t. t == s) (connections next) && (length (filter (λ t. t == s) (concat (map connections g.ops))) == 1)) (s ∷ []) ≡ true =
    ap (list_all (λ s. list_any (λ t. t == s) (connections next) && (length (filter (λ t. t == s) (concat (map connections g.ops))) == 1))) (sym outs.is) ∙ h in
    let one = and_parts (list_any (λ t. t == s) (connections next) && (length (filter (λ t. t == s) (concat (map connections g.ops))) == 1)) true all in
    let both = and_parts (list_any (λ t. t == s) (connections next)) (length (filter (λ t. t == s) (concat (map connections g.ops))) == 1) one.0 in
    let any : ((ins.item == s) || false) ≡ true = ap (list_any (λ t. t == s)) (sym ins.is) ∙ both.0 in
    record { stream = s; makes = outs.is; reads = ins.is ∙ ap (λ t. t ∷ []) (same (or_cases (ins.item == s) false any)); alone = readers-many s g.ops ∙ eqb-true (length (filter (λ t. t == s) (concat (map connections g.ops)))) 1 both.1 }
  where
    same : ((ins.item == outs.item) ≡ true) ⊎ (false ≡ true) → ins.item ≡ outs.item
    same (inl e) = eqb-true ins.item outs.item e
    same (inr e) = absurd (cc)

module _ (g : Graph) (fits : GraphFits g) where
  chain-fused : (ids : List ℕ) (op : Operator) (ops : List Operator) → Named g ids ops → is_chain g (op ∷ ops) ≡ true → Fused g op ops
  chain-fused ids op [] named h = tt
  chain-fused [] op (next ∷ ops) named h = absurd named
  chain-fused (n ∷ ids) op (next ∷ ops) named h =
      let rest = rest-chain g op next ops h in
      let first = eligible-is op (first-eligible g op (next ∷ ops) h) in
      let second = eligible-is next (first-eligible g next ops rest.1) in
      let f = follows-is g op next first.makes second.reads rest.0 in
      (f.stream, f.makes, f.reads, f.alone, stands-is g fits n next named.0, chain-fused ids next ops named.1 rest.1)

  named-numbers : (ids : List ℕ) (ops : List Operator) → Named g ids ops → map (λ (op : Operator). op.number) ops ≡ ids
  named-numbers [] [] named = refl
  named-numbers [] (op ∷ ops) named = absurd named
  named-numbers (n ∷ ids) [] named = absurd named
  named-numbers (n ∷ ids) (op ∷ ops) named =
      ap (λ m. m ∷ map (λ (op : Operator). op.number) ops) (fits.numbered n op named.0) ∙ ap (λ ms. n ∷ ms) (named-numbers ids ops named.1)

  module _ (plan : List Region) (i : ℕ) (region : Region) (is : IsPlan g plan) (at : slice_get plan i ≡ Some region) where
    there : (n : ℕ) → 1 ≤ how_often n region.ops → option_map_or is_eligible (slice_get g.ops n) false ≡ true
    there n h = passes (λ m. option_map_or is_eligible (slice_get g.ops m) false) n g.topo (subst (λ k. 1 ≤ k) (is.once n) (in_plan n plan i region at h))

    r : IsRegion g region
    r = all_at (IsRegion g) plan i region is.regions at

    -- the operators of the region, and that they are a chain
    record Whole : Type 0 where
      pub number : ℕ
      pub ids : List ℕ
      pub first : Operator
      pub behind : List Operator
      pub numbers : region.ops ≡ number ∷ ids
      pub are : ops_of g region.ops ≡ first ∷ behind
      pub named : Named g (number ∷ ids) (first ∷ behind)
      pub chain : is_chain g (first ∷ behind) ≡ true

    whole : Whole
    whole = go region.ops refl (named-is g region.ops there)
      where
        go : (ids : List ℕ) → region.ops ≡ ids → AreNamed g region.ops → Whole
        go [] e a = absurd (let no : true ≡ false = ap is_empty (sym e) ∙ r.some in cc)
        go (n ∷ ids) e a = on a.ops refl (subst (λ ns. Named g ns a.ops) e a.named)
          where
            on : (ops : List Operator) → a.ops ≡ ops → Named g (n ∷ ids) a.ops → Whole
            on [] same named = absurd (subst (Named g (n ∷ ids)) same named)
            on (op ∷ ops) same named = record {
              number = n;
              ids = ids;
              first = op;
              behind = ops;
              numbers = e;
              are = a.are ∙ same;
              named = subst (Named g (n ∷ ids)) same named;
              chain = ap (is_chain g) (sym (a.are ∙ same))
                  ∙ (and_parts (is_chain g (ops_of g region.ops)) (not (any_keyed (ops_of g region.ops)) || not (is_empty (chain_key (ops_of g region.ops)))) r.safe).0;
            }

    pub region_chain : RegionChain g region
    region_chain =
        let w = whole in
        record {
          first = w.first;
          behind = w.behind;
          are = w.are;
          numbers = named-numbers (w.number ∷ w.ids) (w.first ∷ w.behind) w.named ∙ sym w.numbers;
          stands = stands-is g fits w.number w.first (w.named).0;
          fused = chain-fused w.ids w.first w.behind (w.named).1 w.chain;
          reads = (first.item, first.is);
          makes = (last.item, last.is);
        }
      where
        first : Single (connections whole.first)
        first = (eligible-is whole.first (first-eligible g whole.first whole.behind whole.chain)).reads

        last : Single (last_of whole.first whole.behind).outs
        last = last-makes g whole.first whole.behind whole.chain

-- ---- regions that run in replicas

kept-at : (test : Region → Bool) (plan : List Region) (i : ℕ) (region : Region) → slice_get (filter test plan) i ≡ Some region
    → (j : ℕ) × (slice_get plan j ≡ Some region) × (test region ≡ true)
kept-at test [] i region at = absurd (cc)
kept-at test (r ∷ plan) i region at = go (test r) refl i at (λ k. kept-at test plan k region)
  where
    go : (b : Bool) → test r ≡ b → (i : ℕ) → slice_get (cond b (r ∷ filter test plan) (filter test plan)) i ≡ Some region
        → ((k : ℕ) → slice_get (filter test plan) k ≡ Some region → (j : ℕ) × (slice_get plan j ≡ Some region) × (test region ≡ true))
        → (j : ℕ) × (slice_get (r ∷ plan) j ≡ Some region) × (test region ≡ true)
    go true e zero at later = let same : r ≡ region = cc in (0, ap (λ z. Some z) same, ap test (sym same) ∙ e)
    go true e (suc i) at later = let k = later i at in (suc k.0, k.1, k.2)
    go false e i at later = let k = later i at in (suc k.0, k.1, k.2)

pub replicated-at : (plan : List Region) (width i : ℕ) (region : Region) → slice_get (replicated width plan) i ≡ Some region
    → (j : ℕ) × (slice_get plan j ≡ Some region) × (is_replicated width region ≡ true)
replicated-at plan width i region at = kept-at (is_replicated width) plan i region at

kept-often : (test : Region → Bool) (n : ℕ) (plan : List Region)
    → how_often n (concat (map (λ (r : Region). r.ops) (filter test plan))) ≤ how_often n (concat (map (λ (r : Region). r.ops) plan))
kept-often test n [] = omega arith
kept-often test n (r ∷ plan) = go (test r) (kept-often test n plan)
  where
    both : how_often n (r.ops ++ concat (map (λ (r : Region). r.ops) plan)) ≡ how_often n r.ops + how_often n (concat (map (λ (r : Region). r.ops) plan))
    both = often-append n r.ops (concat (map (λ (r : Region). r.ops) plan))

    go : (b : Bool) → how_often n (concat (map (λ (r : Region). r.ops) (filter test plan))) ≤ how_often n (concat (map (λ (r : Region). r.ops) plan))
        → how_often n (concat (map (λ (r : Region). r.ops) (cond b (r ∷ filter test plan) (filter test plan)))) ≤ how_often n (r.ops ++ concat (map (λ (r : Region). r.ops) plan))
    go true rest =
        let own = often-append n r.ops (concat (map (λ (r : Region). r.ops) (filter test plan))) in
        let all = both in
        omega (arith, own, all, rest)
    go false rest = let all = both in omega (arith, all, rest)

module _ (g : Graph) (fits : GraphFits g) (plan : List Region) (is : IsPlan g plan) where
  pub plan-once : (n : ℕ) → how_often n (concat (map (λ (r : Region). r.ops) plan)) ≤ 1
  plan-once n = go (how_often n (concat (map (λ (r : Region). r.ops) plan))) refl
    where
      go : (k : ℕ) → how_often n (concat (map (λ (r : Region). r.ops) plan)) ≡ k → how_often n (concat (map (λ (r : Region). r.ops) plan)) ≤ 1
      go zero e = omega (arith, e)
      go (suc k) e = found (slice_get g.ops n) refl
        where
          least : how_often n (filter (λ m. option_map_or is_eligible (slice_get g.ops m) false) g.topo) ≤ times (λ (o : Operator). o.number == n) (in_topo g)
          least = eligible-often g.ops n (λ m o at. fits.numbered m o at) g.topo

          same : how_often n (concat (map (λ (r : Region). r.ops) plan)) ≡ how_often n (filter (λ m. option_map_or is_eligible (slice_get g.ops m) false) g.topo)
          same = is.once n

          found : (o : Option Operator) → slice_get g.ops n ≡ o → how_often n (concat (map (λ (r : Region). r.ops) plan)) ≤ 1
          found None x =
              let some : 1 ≤ how_often n (filter (λ m. option_map_or is_eligible (slice_get g.ops m) false) g.topo) = (let k = e in let q = same in omega (arith, k, q)) in
              let there = passes (λ m. option_map_or is_eligible (slice_get g.ops m) false) n g.topo some in
              absurd (let clash : false ≡ true = ap (λ o. option_map_or is_eligible o false) (sym x) ∙ there in cc)
          found (Some op) x = let once = fits.once n op x in let q = same in let l = least in omega (arith, once, q, l)

pub regions_law : RegionsLaw
regions_law g plan width fits is = record {
  chains = λ i region at. (let k = replicated-at plan width i region at in region_chain g fits plan k.0 region is k.1);
  once = λ n. (let a = plan-once g fits plan is n in let b = kept-often (is_replicated width) n plan in omega (arith, a, b));
}

-- ---- a region as elements run it

last-named : (g : Graph) → GraphFits g → (op : Operator) (ops : List Operator) → Stands g op → Fused g op ops → last_op g (map (λ (op : Operator). op.number) (op ∷ ops)) ≡ Some (last_of op ops)
last-named g fits op [] stands h = fits.there op stands
last-named g fits op (next ∷ ops) stands h = last-named g fits next ops h.4 h.5

pub chain_law : ChainLaw
chain_law g regions i region width fits are at some =
    let c = are.chains i region at in
    let entry : entry_stream (ops_of g region.ops) ≡ c.reads.0 = ap entry_stream c.are ∙ ap first_stream c.reads.1 in
    let exit : option_map_or (λ (op : Operator). first_stream op.outs) (last_op g region.ops) 0 ≡ c.makes.0 =
    ap (λ o. option_map_or (λ (op : Operator). first_stream op.outs) o 0) (ap (last_op g) (sym c.numbers) ∙ last-named g fits c.first c.behind c.stands c.fused) ∙ ap first_stream c.makes.1 in
    record {
      op = c.first;
      ops = c.behind;
      are = c.are;
      stands = c.stands;
      no_source = linked c.first c.stands c.reads.0 c.reads.1 (cases_Bool (is_source c.first.clauses));
      reads = one-port c.first.ins c.reads.0 (λ j streams there. fits.ports c.first j streams c.stands there) c.reads.1 ∙ ap (λ s. (s ∷ []) ∷ []) (sym entry);
      path = path-is g fits c.first c.behind c.fused;
      makes = c.makes.1 ∙ ap (λ s. s ∷ []) (sym exit);
      some = some;
    }
  where
    linked : (op : Operator) → Stands g op → (s : ℕ) → connections op ≡ s ∷ [] → (is_source op.clauses ≡ true) ⊎ (is_source op.clauses ≡ false) → is_source op.clauses ≡ false
    linked op stands s one (inl e) = let none : connections op ≡ [] = ap concat (fits.no_input op stands e) in absurd (cc)
    linked op stands s one (inr e) = e
