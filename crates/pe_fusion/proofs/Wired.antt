-- The network of a graph's chains and regions runs the graph.
use Rattle.std.proofs.Common.{ℕ, zero, suc, ◌+◌, ◌<◌, ◌≤◌, ◌==◌, ◌&&◌, true, false, List, [], ◌∷◌, ◌≡◌, ◌⊎◌, inl, inr, refl, sym, ap, subst, ◌∙◌, arith, length, Option, Some, None, slice_get}
use Rattle.std.specs.List.{concat, flat_map}
use Rattle.std.specs.Option.{unwrap_or}
use Rattle.std.proofs.lemmas.Bool.{cases_eq, eqb-true, eq-eqb, ne_eqb, and_from, and_left, and_parts, cond_both, ltb-true}
use Rattle.std.proofs.lemmas.Option.{slice_get_within}
use Rattle.list_engine.proofs.Ports.{input_count}
use Rattle.spl_value.proofs.Lists.{get_below}
use Rattle.stream_model.specs.declared.plan.Region.{Region}
use Rattle.stream_model.specs.Operators.{Operator, connections, ports}
use Rattle.stream_model.specs.Meaning.{Graph, in_topo}
use Rattle.stream_model.specs.CheckedMeaning.{graph_of}
use Rattle.stream_model.specs.Regions.{width_of}
use Rattle.network_model.specs.Networks.{last_of, RegionPart, Part, FromSource, FromLinks, Splitter, Replica, Merger, inputs, outputs, Link, Net}
use Rattle.pe_fusion.specs.FusedNets.{chain_of, channel_links, entry_at, links_in, links_of, merger_links, net_at, no_link, no_part, outputs_in, parts_at, parts_in, region_in, region_part, size_by}
use Rattle.pe_fusion.specs.Fusing.{AreFused, AreRegions, HaveAll, GraphFits}
use Rattle.pe_fusion.specs.Pieces.{Piece, last_in, ops_in, pieces_of, replicated}
use Rattle.pe_fusion.specs.Readers.{readers}
use Rattle.pe_fusion.specs.Totals.{one_if, times}
use Rattle.pe_fusion.specs.FusionLaws.{WiredLaw, FusedWired, FusedPlanned}
use Rattle.network_model.specs.Wiring.{is_source, Stands, Path, PartFits, RegionFits, Carries, Connects, IsAt, ReplicaLink, LinkFits, Fed, Led, IsWired}
use Rattle.pe_fusion.proofs.Totals.{total-flat, total-same, total-zero, total-only, total-at, total-unique, total-found, some-one, one-some, eqb-turn, Behind, get-append}
use Rattle.pe_fusion.proofs.Connections.{outputs-length, is_reader, reader-is, reader-once, output-is, ports-fit, position-is}
use Rattle.pe_fusion.proofs.Chains.{path-is, piece-stands, piece-number, first-once, last-once, reader-first, stands-before}
use Rattle.pe_fusion.proofs.OuterLinks.{OuterAt, outer-from, leads, leads_to}
use Rattle.pe_fusion.proofs.RegionPieces.{last-stands, pieces_law, whole_law}
use Rattle.pe_fusion.proofs.PlanParts.{chain_law, regions_law, replicated-at}
use Rattle.pe_fusion.proofs.Checked.{fits_law}
use Rattle.pe_fusion.proofs.Spots.{replica-at, merger-at, size-is, region-at, size, spots, size-some, spot-piece, piece-spot, spots-apart, part-in, part-of, entry-spot, EntryOf, entry-of}
use Rattle.pe_fusion.proofs.RegionLinks.{link-in, inner-link, outer-link, from-splitter, from-replica, channel-at, merger-link-at, inner_by, exit_by, inner-count, links-total, LinkOf, link-of, disjoint, inner-zero, inner-replica, inner-merger}

-- a chain by its first operator
pub by-source : (P : Part → Type 0) (op : Operator) (ops : List Operator) (outs : List ℕ) → (is_source op.clauses ≡ true → P (FromSource op ops outs)) → (is_source op.clauses ≡ false → P (FromLinks op ops outs))
    → P (chain_of op ops outs)
by-source P op ops outs sourced linked = cond_both (is_source op.clauses) (FromSource op ops outs) (FromLinks op ops outs) P sourced linked

module _ (g : Graph) (plan : List Region) (w capacity : ℕ) (pieces : List Piece) (fits : GraphFits g) (regions : AreRegions g plan) (some : (i : ℕ) (r : Region) → slice_get plan i ≡ Some r → 0 < width_of r w)
    (h : AreFused g (in_topo g) pieces) (whole : HaveAll g plan pieces) where
  abbrev net : Net
  net = net_at g plan w capacity pieces

  abbrev entry : ℕ → ℕ
  entry = entry_at plan w pieces

  abbrev Spot : Type 0
  Spot = ℕ × Piece

  abbrev At : ℕ → Spot → Type 0
  At j x = slice_get (spots g plan w 0 pieces) j ≡ Some x

  abbrev parts_by : Spot → List Part
  parts_by x = parts_in g w (region_in plan x.1) x.1

  piece-at : (j : ℕ) (x : Spot) → At j x → slice_get pieces j ≡ Some x.1
  piece-at j x at = spot-piece g plan w 0 pieces j x at

  part-at : (j k : ℕ) (x : Spot) (part : Part) → At j x → slice_get (parts_by x) k ≡ Some part → slice_get (parts_at g plan w pieces) (x.0 + k) ≡ Some part
  part-at j k x part at there =
      let r = part-in g plan w 0 pieces j k x part at there in
      let sum : 0 + r.0 ≡ x.0 + k = r.1 in
      ap (slice_get (parts_at g plan w pieces)) (let e : x.0 + k ≡ r.0 = omega (arith, sum) in e) ∙ r.2

  part-is : (m : ℕ) (part : Part) → slice_get (parts_at g plan w pieces) m ≡ Some part → net.part m ≡ part
  part-is m part at = ap (λ found. unwrap_or found no_part) at

  link-is : (l : ℕ) (k : Link) → slice_get (links_of g plan w pieces) l ≡ Some k → net.link l ≡ k
  link-is l k at = ap (λ found. unwrap_or found no_link) at

  spot-below : (j k : ℕ) (x : Spot) → At j x → k < size g plan w x.1 → x.0 + k < net.size
  spot-below j k x at lt =
      let n = size-is g w (region_in plan x.1) x.1 in
      let p = get_below (parts_by x) k (omega (arith, lt, n)) in
      slice_get_within (parts_at g plan w pieces) (x.0 + k) p.0 (part-at j k x p.0 at p.1)

  -- ---- regions

  record RegionFacts (p : Piece) (r : Region) : Type 0 where
    pub suits : RegionFits g (region_part g w r)
    pub reads : connections p.first ≡ (region_part g w r).entry ∷ []
    pub makes : (last_in p).outs ≡ (region_part g w r).exit ∷ []

  region-facts : (j : ℕ) (p : Piece) (r : Region) → slice_get pieces j ≡ Some p → region_in plan p ≡ Some r → RegionFacts p r
  region-facts j p r at e =
      let k = whole j p r at e in
      let f = chain_law g plan k.place r w fits regions k.at (some k.place r k.at) in
      let same : f.op ∷ f.ops ≡ p.first ∷ p.behind = sym f.are ∙ k.ops in
      let first : f.op ≡ p.first = cc in
      let behind : f.ops ≡ p.behind = cc in
      record { suits = f; reads = ap connections (sym first) ∙ ap concat f.reads; makes = (λ i. (last_of (sym first i) (sym behind i)).outs) ∙ f.makes }

  -- ---- elements

  part-fits : (p : Piece) → Stands g p.first → Path g p.first p.behind → PartFits g (chain_of p.first p.behind (outputs_in g p))
  part-fits p stands path = by-source (PartFits g) p.first p.behind (outputs_in g p)
      (λ e. let out = fits.one_output p.first stands e in
      record { stands = stands; reads = e; stream = out.0; one_stream = out.1; path = path; fit = fit })
      (λ e. record { stands = stands; no_source = e; reads = fits.reads p.first stands e; path = path; fit = fit })
    where
      fit : (o q : ℕ) → slice_get (outputs_in g p) o ≡ Some q → q < length (last_in p).outs
      fit o q at = let lt : q < 0 + length (last_in p).outs = ports-fit g 0 (last_in p).outs o q at in omega (arith, lt)

  element-fits : (j : ℕ) (x : Spot) (o : Option Region) (k : ℕ) (part : Part) → At j x → region_in plan x.1 ≡ o → slice_get (parts_in g w o x.1) k ≡ Some part → PartFits g part
  element-fits j x None zero part at e is =
      let same : chain_of (x.1).first (x.1).behind (outputs_in g x.1) ≡ part = cc in
      let s = piece-stands g fits pieces h j x.1 (piece-at j x at) in
      subst (PartFits g) same (part-fits x.1 s.0 (path-is g fits (x.1).first (x.1).behind s.1))
  element-fits j x None (suc k) part at e is = absurd (cc)
  element-fits j x (Some r) k part at e is = go (region-at g w r x.1 k part is).which
    where
      facts : RegionFacts x.1 r
      facts = region-facts j x.1 r (piece-at j x at) e

      port : (o p : ℕ) → slice_get (outputs_in g x.1) o ≡ Some p → p ≡ 0
      port o p there =
          let lt = ports-fit g 0 (last_in x.1).outs o p there in
          let one : length (last_in x.1).outs ≡ 1 = ap length facts.makes in
          omega (arith, lt, one)

      go : ((k ≡ 0) × (part ≡ Splitter (region_part g w r))) ⊎ (((c : ℕ) × (k ≡ suc c) × (c < w) × (part ≡ Replica (region_part g w r) c)) ⊎ ((k ≡ suc w) × (part ≡ Merger (region_part g w r) (outputs_in g x.1)))) → PartFits g part
      go (inl a) = subst (PartFits g) (sym a.1) facts.suits
      go (inr (inl a)) = subst (PartFits g) (sym a.3) (facts.suits, a.2)
      go (inr (inr a)) = subst (PartFits g) (sym a.1) (facts.suits, port)

  parts : (e : ℕ) → e < net.size → PartFits g (net.part e)
  parts e lt =
      let p = get_below (parts_at g plan w pieces) e lt in
      let k = part-of g plan w 0 pieces e p.0 p.1 in
      subst (PartFits g) (sym (part-is e p.0 p.1)) (element-fits k.place k.spot (region_in plan k.spot.1) k.offset p.0 k.at refl k.is)

  -- ---- how many links lead to an element

  same-spot : (j k : ℕ) (x y : Spot) → At j x → At k y → j ≡ k → x ≡ y
  same-spot j k x y at there e = let found : slice_get (spots g plan w 0 pieces) j ≡ Some y = ap (slice_get (spots g plan w 0 pieces)) e ∙ there in cc

  same-test : (j : ℕ) (x : Spot) → At j x → (m : ℕ) → (entry m == x.0) ≡ (m == (x.1).first.number)
  same-test j x at m = go (cases_eq (entry m) x.0)
    where
      number : entry m ≡ x.0 → EntryOf g plan w 0 pieces m ⊎ (entry m ≡ net.size) → (x.1).first.number ≡ m
      number e (inl r) =
          let is : 0 + entry m ≡ r.spot.0 = r.is in
          let a = size-some g plan w x.1 in
          let b = size-some g plan w r.spot.1 in
          let place = disjoint g plan w pieces j r.place x r.spot 0 0 at r.at (omega (arith, a)) (omega (arith, b)) (let z : x.0 + 0 ≡ r.spot.0 + 0 = omega (arith, is, e) in z) in
          ap (λ (z : Spot). (z.1).first.number) (same-spot j r.place x r.spot at r.at place) ∙ r.number
      number e (inr past) =
          let a = size-some g plan w x.1 in
          let lt = spot-below j 0 x at (omega (arith, a)) in
          absurd (omega (arith, e, past, lt))

      go : (entry m ≡ x.0) ⊎ (entry m ≡ x.0 → ⊥) → (entry m == x.0) ≡ (m == (x.1).first.number)
      go (inl e) = eq-eqb (entry m) x.0 e ∙ sym (eq-eqb m (x.1).first.number (sym (number e (entry-of g plan w 0 pieces m))))
      go (inr apart) =
          ne_eqb (entry m) x.0 apart
          ∙ sym (ne_eqb m (x.1).first.number (λ same. apart (let k = entry-spot g plan w 0 pieces j x (x.1).first.number (first-once g fits pieces h j x.1 (piece-at j x at)) at refl in
          let f : entry m ≡ entry (x.1).first.number = ap entry same in omega (arith, k, f))))

  count-entry : (j i s : ℕ) (x : Spot) → At j x → slice_get (connections (x.1).first) i ≡ Some s → times (leads x.0 i) (links_of g plan w pieces) ≡ 1
  count-entry j i s x at reads =
      let all = links-total g plan w entry x.0 i 0 pieces in
      let inner = total-zero (inner-count g plan w x.0 i) (spots g plan w 0 pieces) (λ k y there.
      inner-zero g plan w x.0 i (region_in plan y.1) y.0 (λ m pos below e.
      (let a = size-some g plan w x.1 in
      let f : x.0 ≡ y.0 + m = e in
      let place = disjoint g plan w pieces j k x y 0 m at there (omega (arith, a)) below (let z : x.0 + 0 ≡ y.0 + m = omega (arith, f) in z) in
      let same : x.0 ≡ y.0 = ap (λ (z : Spot). z.0) (same-spot j k x y at there place) in
      omega (arith, f, same, pos)))) in
      let outer = total-same (λ (p : Piece). times (leads_to entry x.0 i) (flat_map (readers g) (last_in p).outs)) (λ (p : Piece). times (λ t. t == s) (last_in p).outs) pieces
      (λ p. total-flat (λ r. one_if (leads_to entry x.0 i r)) (readers g) (last_in p).outs
      ∙ total-same (λ t. times (leads_to entry x.0 i) (readers g t)) (λ t. one_if (t == s)) (last_in p).outs each) in
      let last = last-once g fits pieces h j i s x.1 (piece-at j x at) reads in
      omega (arith, all, inner, outer, last)
    where
      each : (t : ℕ) → times (leads_to entry x.0 i) (readers g t) ≡ one_if (t == s)
      each t =
          total-same (λ r. one_if (leads_to entry x.0 i r)) (λ r. one_if (is_reader (x.1).first.number i r)) (readers g t) (λ r. ap (λ b. one_if (b && r.1 == i)) (same-test j x at r.0))
          ∙ reader-once g (x.1).first.number i t s (x.1).first fits.numbered (piece-number g fits pieces h j x.1 (piece-at j x at)) reads
          ∙ ap one_if (eqb-turn s t)

  count-inner : (j d i m : ℕ) (x : Spot) → At j x → d ≡ x.0 + m → 0 < m → m < size g plan w x.1 → times (leads d i) (inner_by g plan w (region_in plan x.1) x.0) ≡ 1 → times (leads d i) (links_of g plan w pieces) ≡ 1
  count-inner j d i m x at e pos below one =
      let all = links-total g plan w entry d i 0 pieces in
      let inner = total-only (inner-count g plan w d i) (spots g plan w 0 pieces) j x at (λ k y there apart.
      inner-zero g plan w d i (region_in plan y.1) y.0 (λ n some_n lt f.
      apart (sym (disjoint g plan w pieces j k x y m n at there below lt (sym e ∙ f))))) in
      let outer = total-zero (λ (p : Piece). times (leads_to entry d i) (flat_map (readers g) (last_in p).outs)) pieces (λ k p there.
      total-zero (λ r. one_if (leads_to entry d i r)) (flat_map (readers g) (last_in p).outs) (λ l r here. ap one_if (and_left (entry r.0 == d) (r.1 == i) (ne_eqb (entry r.0) d (apart r.0))))) in
      omega (arith, all, inner, outer, one)
    where
      apart : (n : ℕ) → entry n ≡ d → ⊥
      apart n f = go (entry-of g plan w 0 pieces n)
        where
          go : EntryOf g plan w 0 pieces n ⊎ (entry n ≡ net.size) → ⊥
          go (inl r) =
              let is : 0 + entry n ≡ r.spot.0 = r.is in
              let b = size-some g plan w r.spot.1 in
              let sum : x.0 + m ≡ r.spot.0 + 0 = omega (arith, is, f, e) in
              let place = disjoint g plan w pieces j r.place x r.spot m 0 at r.at below (omega (arith, b)) sum in
              let same : x.0 ≡ r.spot.0 = ap (λ (z : Spot). z.0) (same-spot j r.place x r.spot at r.at place) in
              omega (arith, sum, same, pos)
          go (inr past) = let lt = spot-below j m x at below in omega (arith, past, f, e, lt)

  region-size : (x : Spot) (r : Region) → region_in plan x.1 ≡ Some r → size g plan w x.1 ≡ w + 2
  region-size x r e = ap (size_by w) e

  count-replica : (j c : ℕ) (x : Spot) (r : Region) → At j x → region_in plan x.1 ≡ Some r → c < w → times (leads (x.0 + suc c) 0) (links_of g plan w pieces) ≡ 1
  count-replica j c x r at e lt =
      let n = region-size x r e in
      let k : x.0 + 1 + c ≡ x.0 + suc c = omega arith in
      count-inner j (x.0 + suc c) 0 (suc c) x at refl (omega arith) (omega (arith, n, lt))
      (ap (λ o. times (leads (x.0 + suc c) 0) (inner_by g plan w o x.0)) e ∙ ap (λ d. times (leads d 0) (inner_by g plan w (Some r) x.0)) (sym k) ∙ inner-replica g plan w x.0 c r lt)

  pub count-merger : (j c : ℕ) (x : Spot) (r : Region) → At j x → region_in plan x.1 ≡ Some r → c < w → times (leads (x.0 + suc w) c) (links_of g plan w pieces) ≡ 1
  count-merger j c x r at e lt =
      let n = region-size x r e in
      let k : x.0 + 1 + w ≡ x.0 + suc w = omega arith in
      count-inner j (x.0 + suc w) c (suc w) x at refl (omega arith) (omega (arith, n))
      (ap (λ o. times (leads (x.0 + suc w) c) (inner_by g plan w o x.0)) e ∙ ap (λ d. times (leads d c) (inner_by g plan w (Some r) x.0)) (sym k) ∙ inner-merger g plan w x.0 c r lt)

  -- ---- links

  -- what a link between pieces leads from and to
  record Ends (k : Link) : Type 0 where
    pub place : ℕ
    pub spot : Spot
    pub at : At place spot
    pub from : k.from ≡ spot.0 + exit_by g plan w (region_in plan spot.1)
    pub port : ℕ
    pub stream : ℕ
    pub carries : slice_get (outputs_in g spot.1) k.output ≡ Some port
    pub made : slice_get (last_in spot.1).outs port ≡ Some stream
    pub target : ℕ
    pub reader : Spot
    pub there : At target reader
    pub to : k.to ≡ reader.0
    pub reads : slice_get (connections (reader.1).first) k.input ≡ Some stream
    pub before : place < target

  ends-of : (j : ℕ) (x : Spot) (k : Link) → At j x → OuterAt entry (x.0 + exit_by g plan w (region_in plan x.1)) 0 (flat_map (readers g) (last_in x.1).outs) k → Ends k
  ends-of j x k at la =
      let sum : k.output ≡ 0 + la.at = la.output in
      let here : k.output ≡ la.at = omega (arith, sum) in
      let out = output-is g 0 (last_in x.1).outs k.output la.reader (ap (slice_get (flat_map (readers g) (last_in x.1).outs)) here ∙ la.is) in
      let rd = reader-is g.ops out.stream out.place la.reader out.reads in
      let one = total-at (λ t. one_if (t == out.stream)) (last_in x.1).outs out.port out.stream out.is in
      let counts : one_if (out.stream == out.stream) ≡ 1 = ap one_if (eq-eqb out.stream out.stream refl) in
      let makes : 0 < times (λ t. t == out.stream) (last_in x.1).outs = omega (arith, one, counts) in
      let all = total-at (λ (p : Piece). times (λ t. t == out.stream) (last_in p).outs) pieces j x.1 (piece-at j x at) in
      let rf = reader-first g fits pieces h rd.place la.reader.1 out.stream rd.op rd.is rd.input (omega (arith, makes, all)) in
      let sp = piece-spot g plan w 0 pieces rf.0 rf.1 rf.2 in
      let number : (rf.1).first.number ≡ la.reader.0 = ap (λ (o : Operator). o.number) rf.3 ∙ sym rd.number in
      let place = entry-spot g plan w 0 pieces rf.0 (sp.0, rf.1) la.reader.0 (subst (λ n. times (λ (p : Piece). p.first.number == n) pieces ≤ 1) number (first-once g fits pieces h rf.0 rf.1 rf.2)) sp.1 number in
      let to : k.to ≡ entry la.reader.0 = la.to in
      let reads : slice_get (connections (rf.1).first) k.input ≡ Some out.stream =
      ap (λ (o : Operator). slice_get (connections o) k.input) rf.3 ∙ ap (slice_get (connections rd.op)) la.input ∙ rd.input in
      let same_port : 0 + out.port ≡ out.port = omega arith in
      record {
        place = j;
        spot = x;
        at = at;
        from = la.from;
        port = out.port;
        stream = out.stream;
        carries = out.carries ∙ ap (λ p. Some p) same_port;
        made = out.is;
        target = rf.0;
        reader = (sp.0, rf.1);
        there = sp.1;
        to = omega (arith, to, place);
        reads = reads;
        before = stands-before g fits pieces h j rf.0 out.stream k.input x.1 rf.1 (piece-at j x at) rf.2 makes reads;
      }

  only : (t i s : ℕ) → slice_get (t ∷ []) i ≡ Some s → (i ≡ 0) × (t ≡ s)
  only t zero s e = (refl, cc)
  only t (suc i) s e = absurd (cc)

  carried : (k : Link) (en : Ends k) (o : Option Region) → region_in plan en.spot.1 ≡ o → (part : Part) × (slice_get (parts_at g plan w pieces) (en.spot.0 + exit_by g plan w o) ≡ Some part) × Carries part k.output en.stream
  carried k en None e = (
    chain_of (en.spot.1).first (en.spot.1).behind (outputs_in g en.spot.1),
    part-at en.place 0 en.spot (chain_of (en.spot.1).first (en.spot.1).behind (outputs_in g en.spot.1)) en.at (ap (λ o. slice_get (parts_in g w o en.spot.1) 0) e),
    by-source (λ part. Carries part k.output en.stream) (en.spot.1).first (en.spot.1).behind (outputs_in g en.spot.1) (λ s. (en.port, en.carries, place)) (λ s. (en.port, en.carries, place)),
  )
    where
      stands : Stands g (last_in en.spot.1)
      stands = let s = piece-stands g fits pieces h en.place en.spot.1 (piece-at en.place en.spot en.at) in last-stands g (en.spot.1).first (en.spot.1).behind s.0 s.1

      place : IsAt (last_in en.spot.1) en.port en.stream
      place = position-is en.stream (last_in en.spot.1).outs en.port (fits.apart (last_in en.spot.1) en.stream stands) en.made
  carried k en (Some r) e =
      let facts = region-facts en.place en.spot.1 r (piece-at en.place en.spot en.at) e in
      let one = only (region_part g w r).exit en.port en.stream (ap (λ ss. slice_get ss en.port) (sym facts.makes) ∙ en.made) in
      let number : suc w ≡ w + 1 = omega arith in (
        Merger (region_part g w r) (outputs_in g en.spot.1),
        ap (λ n. slice_get (parts_at g plan w pieces) (en.spot.0 + n)) (sym number)
            ∙ part-at en.place (suc w) en.spot (Merger (region_part g w r) (outputs_in g en.spot.1)) en.at (ap (λ o. slice_get (parts_in g w o en.spot.1) (suc w)) e ∙ merger-at g w r en.spot.1),
        (en.carries ∙ ap (λ p. Some p) one.0, one.1),
      )

  connected : (k : Link) (en : Ends k) (o : Option Region) → region_in plan en.reader.1 ≡ o → (part : Part) × (slice_get (parts_at g plan w pieces) (en.reader.0 + 0) ≡ Some part) × Connects part k.input en.stream
  connected k en None e = (
    chain_of (en.reader.1).first (en.reader.1).behind (outputs_in g en.reader.1),
    part-at en.target 0 en.reader (chain_of (en.reader.1).first (en.reader.1).behind (outputs_in g en.reader.1)) en.there (ap (λ o. slice_get (parts_in g w o en.reader.1) 0) e),
    by-source (λ part. Connects part k.input en.stream) (en.reader.1).first (en.reader.1).behind (outputs_in g en.reader.1)
        (λ s. let none : connections (en.reader.1).first ≡ [] = ap concat (fits.no_input (en.reader.1).first (piece-stands g fits pieces h en.target en.reader.1 (piece-at en.target en.reader en.there)).0 s) in
        let at : slice_get [] k.input ≡ Some en.stream = ap (λ ss. slice_get ss k.input) (sym none) ∙ en.reads in cc)
        (λ s. en.reads),
  )
  connected k en (Some r) e =
      let facts = region-facts en.target en.reader.1 r (piece-at en.target en.reader en.there) e in
      let one = only (region_part g w r).entry k.input en.stream (ap (λ ss. slice_get ss k.input) (sym facts.reads) ∙ en.reads) in (
        Splitter (region_part g w r),
        part-at en.target 0 en.reader (Splitter (region_part g w r)) en.there (ap (λ o. slice_get (parts_in g w o en.reader.1) 0) e),
        one,
      )

  exit-below : (x : Spot) (o : Option Region) → region_in plan x.1 ≡ o → exit_by g plan w o < size g plan w x.1
  exit-below x None e = let n : size g plan w x.1 ≡ 1 = ap (size_by w) e in omega (arith, n)
  exit-below x (Some r) e = let n : size g plan w x.1 ≡ w + 2 = ap (size_by w) e in omega (arith, n)

  outer-fits : (l : ℕ) (k : Link) → net.link l ≡ k → Ends k → LinkFits net l
  outer-fits l k is en =
      let a = carried k en (region_in plan en.spot.1) refl in
      let b = connected k en (region_in plan en.reader.1) refl in
      let from : (net.link l).from ≡ en.spot.0 + exit_by g plan w (region_in plan en.spot.1) = ap (λ (z : Link). z.from) is ∙ en.from in
      let to : (net.link l).to ≡ en.reader.0 = ap (λ (z : Link). z.to) is ∙ en.to in
      let zero_more : en.reader.0 + 0 ≡ en.reader.0 = omega arith in
      let apart = spots-apart g plan w 0 pieces en.place en.target en.spot en.reader en.before en.at en.there in
      let below = exit-below en.spot (region_in plan en.spot.1) refl in
      let one = size-some g plan w en.reader.1 in
      let within = spot-below en.target 0 en.reader en.there (omega (arith, one)) in
      record {
        ends = inl (record {
          stream = en.stream;
          carried = subst (λ (z : Link). Carries (net.part z.from) z.output en.stream) (sym is) (subst (λ part. Carries part k.output en.stream) (sym (ap net.part en.from ∙ part-is (en.spot.0 + exit_by g plan w (region_in plan en.spot.1)) a.0 a.1)) a.2);
          connected = subst (λ (z : Link). Connects (net.part z.to) z.input en.stream) (sym is) (subst (λ part. Connects part k.input en.stream) (sym (ap net.part (en.to ∙ sym zero_more) ∙ part-is (en.reader.0 + 0) b.0 b.1)) b.2);
        });
        earlier = omega (arith, from, to, apart, below);
        within = omega (arith, to, within);
      }

  -- a link inside a region, and how many lead where it does
  record Inside (l : ℕ) (k : Link) : Type 0 where
    pub suits : LinkFits net l
    pub once : times (leads k.to k.input) (links_of g plan w pieces) ≡ 1

  inner-fits : (j n l : ℕ) (x : Spot) (k : Link) (o : Option Region) → net.link l ≡ k → At j x → region_in plan x.1 ≡ o → slice_get (inner_by g plan w o x.0) n ≡ Some k → Inside l k
  inner-fits j n l x k None is at e there = absurd (cc)
  inner-fits j n l x k (Some r) is at e there = go (get-append (channel_links x.0 0 w) (merger_links (x.0 + 1) 0 w) n k there)
    where
      rp : RegionPart
      rp = region_part g w r

      part : (m : ℕ) (p : Part) → slice_get (parts_in g w (Some r) x.1) m ≡ Some p → net.part (x.0 + m) ≡ p
      part m p q = part-is (x.0 + m) p (part-at j m x p at (ap (λ o. slice_get (parts_in g w o x.1) m) e ∙ q))

      big : size g plan w x.1 ≡ w + 2
      big = region-size x r e

      go : (slice_get (channel_links x.0 0 w) n ≡ Some k) ⊎ Behind (channel_links x.0 0 w) (merger_links (x.0 + 1) 0 w) n k → Inside l k
      go (inl a) =
          let f = channel-at x.0 0 w n k a in
          let lt = f.0 in
          let from : k.from ≡ x.0 + 0 = (let y = f.1.from_is in omega (arith, y)) in
          let output : k.output ≡ n = (let y = f.1.output_is in omega (arith, y)) in
          let to : k.to ≡ x.0 + suc n = (let y = f.1.to_is in omega (arith, y)) in
          let within = spot-below j (suc n) x at (let b = big in omega (arith, b, lt)) in
          record {
            suits = subst (λ (z : Link). (ReplicaLink net l) → LinkFits net l) is (λ ends. record {
              ends = inr (inl ends);
              earlier = (let p : (net.link l).from ≡ x.0 + 0 = ap (λ (z : Link). z.from) is ∙ from in let q : (net.link l).to ≡ x.0 + suc n = ap (λ (z : Link). z.to) is ∙ to in omega (arith, p, q));
              within = (let q : (net.link l).to ≡ x.0 + suc n = ap (λ (z : Link). z.to) is ∙ to in omega (arith, q, within));
            }) (record {
              region = rp;
              from = ap (λ (z : Link). net.part z.from) is ∙ ap net.part from ∙ part 0 (Splitter rp) refl;
              within = (let p : (net.link l).output ≡ n = ap (λ (z : Link). z.output) is ∙ output in omega (arith, p, lt));
              to = ap (λ (z : Link). net.part z.to) is ∙ ap net.part to ∙ part (suc n) (Replica rp n) (replica-at g w r x.1 n lt) ∙ ap (Replica rp) (sym (ap (λ (z : Link). z.output) is ∙ output));
              input = ap (λ (z : Link). z.input) is ∙ f.1.input_is;
            });
            once = (λ i. times (leads (to i) (f.1.input_is i)) (links_of g plan w pieces)) ∙ count-replica j n x r at e lt;
          }
      go (inr b) =
          let f = merger-link-at (x.0 + 1) 0 w b.at k b.is in
          let lt = f.0 in
          let from : k.from ≡ x.0 + suc b.at = (let y = f.1.from_is in omega (arith, y)) in
          let input : k.input ≡ b.at = (let y = f.1.input_is in omega (arith, y)) in
          let to : k.to ≡ x.0 + suc w = (let y = f.1.to_is in omega (arith, y)) in
          let within = spot-below j (suc w) x at (let q = big in omega (arith, q)) in
          record {
            suits = record {
              ends = inr (inr (record {
                region = rp;
                outs = outputs_in g x.1;
                from = ap (λ (z : Link). net.part z.from) is ∙ ap net.part from ∙ part (suc b.at) (Replica rp b.at) (replica-at g w r x.1 b.at lt) ∙ ap (Replica rp) (sym (ap (λ (z : Link). z.input) is ∙ input));
                within = (let p : (net.link l).input ≡ b.at = ap (λ (z : Link). z.input) is ∙ input in omega (arith, p, lt));
                output = ap (λ (z : Link). z.output) is ∙ f.1.output_is;
                to = ap (λ (z : Link). net.part z.to) is ∙ ap net.part to ∙ part (suc w) (Merger rp (outputs_in g x.1)) (merger-at g w r x.1);
              }));
              earlier = (let p : (net.link l).from ≡ x.0 + suc b.at = ap (λ (z : Link). z.from) is ∙ from in let q : (net.link l).to ≡ x.0 + suc w = ap (λ (z : Link). z.to) is ∙ to in omega (arith, p, q, lt));
              within = (let q : (net.link l).to ≡ x.0 + suc w = ap (λ (z : Link). z.to) is ∙ to in omega (arith, q, within));
            };
            once = (λ i. times (leads (to i) (input i)) (links_of g plan w pieces)) ∙ count-merger j b.at x r at e lt;
          }

  link-fits : (l : ℕ) (k : Link) → net.link l ≡ k → LinkOf g plan w entry 0 pieces k → Inside l k
  link-fits l k is la = go la.kind
    where
      go : (slice_get (inner_by g plan w (region_in plan la.spot.1) la.spot.0) la.number ≡ Some k) ⊎ OuterAt entry (la.spot.0 + exit_by g plan w (region_in plan la.spot.1)) 0 (flat_map (readers g) (last_in la.spot.1).outs) k → Inside l k
      go (inl a) = inner-fits la.place la.number l la.spot k (region_in plan la.spot.1) is la.at refl a
      go (inr a) =
          let en = ends-of la.place la.spot k la.at a in
          record { suits = outer-fits l k is en; once = ap (λ d. times (leads d k.input) (links_of g plan w pieces)) en.to ∙ count-entry en.target k.input en.stream en.reader en.there en.reads }

  links : (l : ℕ) → l < net.links → LinkFits net l
  links l lt = let k = get_below (links_of g plan w pieces) l lt in (link-fits l k.0 (link-is l k.0 k.1) (link-of g plan w entry 0 pieces l k.0 k.1)).suits

  one : (l m : ℕ) → l < net.links → m < net.links → (net.link l).to ≡ (net.link m).to → (net.link l).input ≡ (net.link m).input → l ≡ m
  one l m a b to input =
      let k = get_below (links_of g plan w pieces) l a in
      let j = get_below (links_of g plan w pieces) m b in
      let once = (link-fits l k.0 (link-is l k.0 k.1) (link-of g plan w entry 0 pieces l k.0 k.1)).once in
      let same_to : (j.0).to ≡ (k.0).to = ap (λ (z : Link). z.to) (sym (link-is m j.0 j.1)) ∙ sym to ∙ ap (λ (z : Link). z.to) (link-is l k.0 k.1) in
      let same_input : (j.0).input ≡ (k.0).input = ap (λ (z : Link). z.input) (sym (link-is m j.0 j.1)) ∙ sym input ∙ ap (λ (z : Link). z.input) (link-is l k.0 k.1) in
      total-unique (λ z. one_if (leads (k.0).to (k.0).input z)) (links_of g plan w pieces) l m k.0 j.0 (omega (arith, once)) k.1 j.1
      (one-some (leads (k.0).to (k.0).input k.0) (and_from ((k.0).to == (k.0).to) ((k.0).input == (k.0).input) (eq-eqb (k.0).to (k.0).to refl) (eq-eqb (k.0).input (k.0).input refl)))
      (one-some (leads (k.0).to (k.0).input j.0) (and_from ((j.0).to == (k.0).to) ((j.0).input == (k.0).input) (eq-eqb (j.0).to (k.0).to same_to) (eq-eqb (j.0).input (k.0).input same_input)))

  -- ---- each input has one link

  input-once : (j k e i : ℕ) (x : Spot) (o : Option Region) (part : Part) → At j x → region_in plan x.1 ≡ o → e ≡ x.0 + k → slice_get (parts_in g w o x.1) k ≡ Some part → i < inputs part → times (leads e i) (links_of g plan w pieces) ≡ 1
  input-once j zero e i x None part at none sum is lt =
      let same : chain_of (x.1).first (x.1).behind (outputs_in g x.1) ≡ part = cc in
      let s = by-source (λ part. i < inputs part → (s : ℕ) × (slice_get (connections (x.1).first) i ≡ Some s)) (x.1).first (x.1).behind (outputs_in g x.1)
      (λ e below. absurd (let k : i < 0 = below in omega (arith, k)))
      (λ e below. get_below (connections (x.1).first) i (let k = input_count (x.1).first in let b : i < length (ports (x.1).first) = below in omega (arith, k, b)))
      (subst (λ part. i < inputs part) (sym same) lt) in
      ap (λ d. times (leads d i) (links_of g plan w pieces)) (let z : e ≡ x.0 = omega (arith, sum) in z) ∙ count-entry j i s.0 x at s.1
  input-once j (suc k) e i x None part at none sum is lt = absurd (cc)
  input-once j k e i x (Some r) part at inside sum is lt = go (region-at g w r x.1 k part is).which
    where
      facts : RegionFacts x.1 r
      facts = region-facts j x.1 r (piece-at j x at) inside

      go : ((k ≡ 0) × (part ≡ Splitter (region_part g w r))) ⊎ (((c : ℕ) × (k ≡ suc c) × (c < w) × (part ≡ Replica (region_part g w r) c)) ⊎ ((k ≡ suc w) × (part ≡ Merger (region_part g w r) (outputs_in g x.1))))
          → times (leads e i) (links_of g plan w pieces) ≡ 1
      go (inl a) =
          let below : i < 1 = subst (λ part. i < inputs part) a.1 lt in
          let first : i ≡ 0 = omega (arith, below) in
          let k_is : k ≡ 0 = a.0 in
          let place : e ≡ x.0 = omega (arith, sum, k_is) in
          (λ t. times (leads (place t) (first t)) (links_of g plan w pieces)) ∙ count-entry j 0 (region_part g w r).entry x at (ap (λ ss. slice_get ss 0) facts.reads)
      go (inr (inl a)) =
          let below : i < 1 = subst (λ part. i < inputs part) a.3 lt in
          let first : i ≡ 0 = omega (arith, below) in
          let k_is : k ≡ suc a.0 = a.1 in
          let place : e ≡ x.0 + suc a.0 = omega (arith, sum, k_is) in
          (λ t. times (leads (place t) (first t)) (links_of g plan w pieces)) ∙ count-replica j a.0 x r at inside a.2
      go (inr (inr a)) =
          let below : i < w = subst (λ part. i < inputs part) a.1 lt in
          let k_is : k ≡ suc w = a.0 in
          let place : e ≡ x.0 + suc w = omega (arith, sum, k_is) in
          (λ t. times (leads (place t) i) (links_of g plan w pieces)) ∙ count-merger j i x r at inside below

  pub fed : (e i : ℕ) → e < net.size → i < inputs (net.part e) → Fed net e i
  fed e i lt below =
      let p = get_below (parts_at g plan w pieces) e lt in
      let q = part-of g plan w 0 pieces e p.0 p.1 in
      let sum : 0 + e ≡ q.spot.0 + q.offset = q.sum in
      let once = input-once q.place q.offset e i q.spot (region_in plan q.spot.1) p.0 q.at refl (omega (arith, sum)) q.is (subst (λ part. i < inputs part) (part-is e p.0 p.1) below) in
      let found = total-found (λ k. one_if (leads e i k)) (links_of g plan w pieces) (omega (arith, once)) in
      let k : Link = found.item in
      let both = and_parts (k.to == e) (k.input == i) (some-one (leads e i k) found.counts) in
      record {
        link = found.at;
        within = slice_get_within (links_of g plan w pieces) found.at k found.is;
        to = ap (λ (z : Link). z.to) (link-is found.at k found.is) ∙ eqb-true k.to e both.0;
        input = ap (λ (z : Link). z.input) (link-is found.at k found.is) ∙ eqb-true k.input i both.1;
      }

  -- ---- each output has a link

  led-link : (j e o n : ℕ) (x : Spot) (k : Link) → At j x → slice_get (links_in g w (region_in plan x.1) entry x.0 x.1) n ≡ Some k → k.from ≡ e → k.output ≡ o → Led net e o
  led-link j e o n x k at is from output =
      let r = link-in g plan w entry 0 pieces j n x k at is in
      record {
        link = r.0;
        within = slice_get_within (links_of g plan w pieces) r.0 k r.1;
        from = ap (λ (z : Link). z.from) (link-is r.0 k r.1) ∙ from;
        output = ap (λ (z : Link). z.output) (link-is r.0 k r.1) ∙ output;
      }

  -- from the last element of a piece
  led-outer : (j e o : ℕ) (x : Spot) → At j x → e ≡ x.0 + exit_by g plan w (region_in plan x.1) → o < length (outputs_in g x.1) → Led net e o
  led-outer j e o x at sum lt =
      let m : Option Region = region_in plan x.1 in
      let many = outputs-length g 0 (last_in x.1).outs in
      let k = outer-from entry (x.0 + exit_by g plan w m) 0 (flat_map (readers g) (last_in x.1).outs) o (omega (arith, lt, many)) in
      let output : (k.0).output ≡ 0 + o = k.3 in
      led-link j e o (length (inner_by g plan w m x.0) + o) x k.0 at (outer-link g plan w m entry x.0 o x.1 k.0 k.1) (k.2 ∙ sym sum) (omega (arith, output))

  led-at : (j k e o : ℕ) (x : Spot) (m : Option Region) (part : Part) → At j x → region_in plan x.1 ≡ m → e ≡ x.0 + k → slice_get (parts_in g w m x.1) k ≡ Some part → o < outputs part → Led net e o
  led-at j zero e o x None part at none sum is lt =
      let same : chain_of (x.1).first (x.1).behind (outputs_in g x.1) ≡ part = cc in
      led-outer j e o x at (sum ∙ ap (λ m. x.0 + exit_by g plan w m) (sym none))
      (by-source (λ part. o < outputs part → o < length (outputs_in g x.1)) (x.1).first (x.1).behind (outputs_in g x.1) (λ s below. below) (λ s below. below) (subst (λ part. o < outputs part) (sym same) lt))
  led-at j (suc k) e o x None part at none sum is lt = absurd (cc)
  led-at j k e o x (Some r) part at inside sum is lt = go (region-at g w r x.1 k part is).which
    where
      go : ((k ≡ 0) × (part ≡ Splitter (region_part g w r))) ⊎ (((c : ℕ) × (k ≡ suc c) × (c < w) × (part ≡ Replica (region_part g w r) c)) ⊎ ((k ≡ suc w) × (part ≡ Merger (region_part g w r) (outputs_in g x.1))))
          → Led net e o
      go (inl a) =
          let below : o < w = subst (λ part. o < outputs part) a.1 lt in
          let f = from-splitter g plan w x.0 o r below in
          let k_is : k ≡ 0 = a.0 in
          led-link j e o o x f.0 at (inner-link g plan w (region_in plan x.1) entry x.0 o x.1 f.0 (ap (λ m. slice_get (inner_by g plan w m x.0) o) inside ∙ f.1)) (let y : (f.0).from ≡ x.0 = f.2 in omega (arith, y, sum, k_is)) f.3
      go (inr (inl a)) =
          let below : o < 1 = subst (λ part. o < outputs part) a.3 lt in
          let f = from-replica g plan w x.0 a.0 r a.2 in
          let k_is : k ≡ suc a.0 = a.1 in
          led-link j e o f.0 x f.1 at (inner-link g plan w (region_in plan x.1) entry x.0 f.0 x.1 f.1 (ap (λ m. slice_get (inner_by g plan w m x.0) f.0) inside ∙ f.2)) (let y : (f.1).from ≡ x.0 + suc a.0 = f.3 in omega (arith, y, sum, k_is))
          (let y : (f.1).output ≡ 0 = f.4 in omega (arith, y, below))
      go (inr (inr a)) =
          let k_is : k ≡ suc w = a.0 in
          led-outer j e o x at (let z : e ≡ x.0 + (w + 1) = omega (arith, sum, k_is) in z ∙ ap (λ m. x.0 + exit_by g plan w m) (sym inside)) (subst (λ part. o < outputs part) a.1 lt)

  led : (e o : ℕ) → e < net.size → o < outputs (net.part e) → Led net e o
  led e o lt below =
      let p = get_below (parts_at g plan w pieces) e lt in
      let q = part-of g plan w 0 pieces e p.0 p.1 in
      let sum : 0 + e ≡ q.spot.0 + q.offset = q.sum in
      led-at q.place q.offset e o q.spot (region_in plan q.spot.1) p.0 q.at refl (omega (arith, sum)) q.is (subst (λ part. o < outputs part) (part-is e p.0 p.1) below)

  -- ---- splitters and mergers

  -- the region of an element that is a splitter or a merger
  record RegionOf (e : ℕ) (rp : RegionPart) (k : ℕ) : Type 0 where
    pub place : ℕ
    pub spot : Spot
    pub at : At place spot
    pub region : Region
    pub inside : region_in plan spot.1 ≡ Some region
    pub sum : e ≡ spot.0 + k
    pub same : rp ≡ region_part g w region

  splitter-by : (j k e : ℕ) (x : Spot) (o : Option Region) (part : Part) (rp : RegionPart) → At j x → region_in plan x.1 ≡ o → e ≡ x.0 + k → slice_get (parts_in g w o x.1) k ≡ Some part → part ≡ Splitter rp → RegionOf e rp 0
  splitter-by j zero e x None part rp at none sum is same =
      absurd (by-source (λ part. part ≡ Splitter rp → ⊥) (x.1).first (x.1).behind (outputs_in g x.1) (λ s q. cc) (λ s q. cc)
      (let own : chain_of (x.1).first (x.1).behind (outputs_in g x.1) ≡ part = cc in own ∙ same))
  splitter-by j (suc k) e x None part rp at none sum is same = absurd (cc)
  splitter-by j k e x (Some r) part rp at inside sum is same = go (region-at g w r x.1 k part is).which
    where
      go : ((k ≡ 0) × (part ≡ Splitter (region_part g w r))) ⊎ (((c : ℕ) × (k ≡ suc c) × (c < w) × (part ≡ Replica (region_part g w r) c)) ⊎ ((k ≡ suc w) × (part ≡ Merger (region_part g w r) (outputs_in g x.1)))) → RegionOf e rp 0
      go (inl a) = let both : Splitter rp ≡ Splitter (region_part g w r) = sym same ∙ a.1 in record { place = j; spot = x; at = at; region = r; inside = inside; sum = sum ∙ ap (λ n. x.0 + n) a.0; same = cc }
      go (inr (inl a)) = absurd (let clash : Splitter rp ≡ Replica (region_part g w r) a.0 = sym same ∙ a.3 in cc)
      go (inr (inr a)) = absurd (let clash : Splitter rp ≡ Merger (region_part g w r) (outputs_in g x.1) = sym same ∙ a.1 in cc)

  merger-by : (j k e : ℕ) (x : Spot) (o : Option Region) (part : Part) (rp : RegionPart) (outs : List ℕ) → At j x → region_in plan x.1 ≡ o → e ≡ x.0 + k → slice_get (parts_in g w o x.1) k ≡ Some part → part ≡ Merger rp outs → RegionOf e rp (suc w)
  merger-by j zero e x None part rp outs at none sum is same =
      absurd (by-source (λ part. part ≡ Merger rp outs → ⊥) (x.1).first (x.1).behind (outputs_in g x.1) (λ s q. cc) (λ s q. cc)
      (let own : chain_of (x.1).first (x.1).behind (outputs_in g x.1) ≡ part = cc in own ∙ same))
  merger-by j (suc k) e x None part rp outs at none sum is same = absurd (cc)
  merger-by j k e x (Some r) part rp outs at inside sum is same = go (region-at g w r x.1 k part is).which
    where
      go : ((k ≡ 0) × (part ≡ Splitter (region_part g w r))) ⊎ (((c : ℕ) × (k ≡ suc c) × (c < w) × (part ≡ Replica (region_part g w r) c)) ⊎ ((k ≡ suc w) × (part ≡ Merger (region_part g w r) (outputs_in g x.1)))) → RegionOf e rp (suc w)
      go (inl a) = absurd (let clash : Merger rp outs ≡ Splitter (region_part g w r) = sym same ∙ a.1 in cc)
      go (inr (inl a)) = absurd (let clash : Merger rp outs ≡ Replica (region_part g w r) a.0 = sym same ∙ a.3 in cc)
      go (inr (inr a)) = let both : Merger rp outs ≡ Merger (region_part g w r) (outputs_in g x.1) = sym same ∙ a.1 in record { place = j; spot = x; at = at; region = r; inside = inside; sum = sum ∙ ap (λ n. x.0 + n) a.0; same = cc }

  splitter-of : (e : ℕ) (rp : RegionPart) → e < net.size → net.part e ≡ Splitter rp → RegionOf e rp 0
  splitter-of e rp lt is =
      let p = get_below (parts_at g plan w pieces) e lt in
      let q = part-of g plan w 0 pieces e p.0 p.1 in
      let sum : 0 + e ≡ q.spot.0 + q.offset = q.sum in
      splitter-by q.place q.offset e q.spot (region_in plan q.spot.1) p.0 rp q.at refl (omega (arith, sum)) q.is (sym (part-is e p.0 p.1) ∙ is)

  merger-of : (e : ℕ) (rp : RegionPart) (outs : List ℕ) → e < net.size → net.part e ≡ Merger rp outs → RegionOf e rp (suc w)
  merger-of e rp outs lt is =
      let p = get_below (parts_at g plan w pieces) e lt in
      let q = part-of g plan w 0 pieces e p.0 p.1 in
      let sum : 0 + e ≡ q.spot.0 + q.offset = q.sum in
      merger-by q.place q.offset e q.spot (region_in plan q.spot.1) p.0 rp outs q.at refl (omega (arith, sum)) q.is (sym (part-is e p.0 p.1) ∙ is)

  one-splitter : (e d : ℕ) (rp : RegionPart) → e < net.size → d < net.size → net.part e ≡ Splitter rp → net.part d ≡ Splitter rp → e ≡ d
  one-splitter e d rp a b p q =
      let x = splitter-of e rp a p in
      let y = splitter-of d rp b q in
      let at = piece-at x.place x.spot x.at in
      let there = piece-at y.place y.spot y.at in
      let k = whole x.place x.spot.1 x.region at x.inside in
      let j = whole y.place y.spot.1 y.region there y.inside in
      let ops : ops_in x.spot.1 ≡ ops_in y.spot.1 = sym k.ops ∙ ap (λ (z : RegionPart). z.ops) (sym x.same ∙ y.same) ∙ j.ops in
      let first : (x.spot.1).first ≡ (y.spot.1).first = cc in
      let n : ℕ = (x.spot.1).first.number in
      let most = first-once g fits pieces h x.place x.spot.1 at in
      let place = total-unique (λ (z : Piece). one_if (z.first.number == n)) pieces x.place y.place x.spot.1 y.spot.1 most at there
      (one-some (n == n) (eq-eqb n n refl)) (one-some ((y.spot.1).first.number == n) (eq-eqb (y.spot.1).first.number n (ap (λ (o : Operator). o.number) (sym first)))) in
      x.sum ∙ ap (λ (z : Spot). z.0 + 0) (same-spot x.place y.place x.spot y.spot x.at y.at place) ∙ sym y.sum

  pub merger-region : (e : ℕ) (rp : RegionPart) (outs : List ℕ) → e < net.size → net.part e ≡ Merger rp outs → (i : ℕ) × (r : Region) × (slice_get plan i ≡ Some r) × (rp ≡ region_part g w r)
  merger-region e rp outs lt is =
      let x = merger-of e rp outs lt is in
      let k = whole x.place x.spot.1 x.region (piece-at x.place x.spot x.at) x.inside in
      (k.place, x.region, k.at, x.same)

  pub wired : IsWired g net
  wired = record { ordered = fits.ordered; numbered = fits.numbered; parts = parts; links = links; led = led; fed = fed; one = one; one_splitter = one-splitter }

wide : (plan : List Region) (width i : ℕ) (r : Region) → slice_get (replicated width plan) i ≡ Some r → 0 < width_of r width
wide plan width i r at = let k = ltb-true 1 (width_of r width) (replicated-at plan width i r at).2 in omega (arith, k)

pub wired_law : WiredLaw
wired_law g plan width capacity pieces fits are h whole = wired g (replicated width plan) width capacity pieces fits are (wide plan width) h whole

pub fused_wired : FusedWired
fused_wired c plan width capacity keeps is =
    let fits = fits_law c keeps in
    let are = regions_law (graph_of c) plan width fits is in
    wired_law (graph_of c) plan width capacity (pieces_of (graph_of c) (replicated width plan)) fits are (pieces_law (graph_of c) (replicated width plan) fits are).0
    (whole_law (graph_of c) (replicated width plan) fits are)

pub fused_planned : FusedPlanned
fused_planned c plan width capacity keeps is e part outs lt at =
    let fits = fits_law c keeps in
    let are = regions_law (graph_of c) plan width fits is in
    let k = merger-region (graph_of c) (replicated width plan) width capacity (pieces_of (graph_of c) (replicated width plan)) fits are (wide plan width)
    (pieces_law (graph_of c) (replicated width plan) fits are).0 (whole_law (graph_of c) (replicated width plan) fits are) e part outs lt at in
    let there = replicated-at plan width k.0 k.1 k.2 in
    (there.0, k.1, there.1, k.3)
