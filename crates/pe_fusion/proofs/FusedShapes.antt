-- The elements and links of pieces by numbers are those of the shape.
use Rattle.std.proofs.Common.{ℕ, zero, suc, ◌+◌, ◌-◌, ◌*◌, ◌<◌, ◌≤◌, ◌==◌, ◌||◌, ◌^◌, Bool, true, false, cond, List, [], ◌∷◌, ◌++◌, append_assoc, ◌≡◌, ◌⊎◌, inl, inr, refl, sym, ap, ◌∙◌, arith, length, map, replicate, set, sum_by, Option, None, Some, slice_get}
use Rattle.std.specs.List.{concat, Contains, cons_option, filter_map, flat_map}
use Rattle.std.specs.Option.{option_and_then, option_map_or, unwrap_or}
use Rattle.std.proofs.lemmas.Bool.{eq-eqb, ne_eqb, cond-true, cond-false}
use Rattle.std.proofs.lemmas.List.{length-append, length-map, length-replicate, length-set}
use Rattle.std.proofs.lemmas.List.Sums.{sum_by-cons}
use Rattle.std.proofs.lemmas.Option.{slice_get_within}
use Rattle.spl_value.proofs.Lists.{contains_here, contains_later, count_concat, set_elsewhere, set_here}
use Rattle.spl_tree.specs.declared.graph.Op.{Op}
use Rattle.language_model.specs.declared.checked.CheckedClauses.{CheckedClauses}
use Rattle.language_model.specs.CheckedGraph.{CheckedGraph}
use Rattle.language_model.specs.Keeping.{Keeps}
use Rattle.stream_model.specs.declared.plan.Region.{Region}
use Rattle.stream_model.specs.declared.shape.Role.TheVariants as L
use Rattle.stream_model.specs.declared.shape.ShapeElement.{ShapeElement}
use Rattle.stream_model.specs.CheckedMeaning.{graph_of, operators_from}
use Rattle.stream_model.specs.Operators.{Operator, connections}
use Rattle.stream_model.specs.Meaning.{Graph, in_topo}
use Rattle.stream_model.specs.Regions.{IsPlan, how_often, width_of}
use Rattle.stream_model.proofs.GraphParts.{operator_at, same_length}
use Rattle.list_engine.proofs.GraphOperators.{operator_there}
use Rattle.list_engine.proofs.Orders.{contains_from_any}
use Rattle.network_model.specs.Networks.{last_of}
use Rattle.network_model.specs.Wiring.{Stands}
use Rattle.pe_fusion.specs.Fusing.{AreFused, AreRegions, Each, GraphFits, Regional, in_all}
use Rattle.pe_fusion.specs.FusedNets.{channel_links, merger_links, entry_at, links_at, links_in, outer_links, readers_of, region_in, region_with, size_by}
use Rattle.pe_fusion.specs.Pieces.{Piece, in_region, is_among, last_in, ops_in, pieces_of, place, placed, replicated, takes}
use Rattle.pe_fusion.specs.Readers.{readers}
use Rattle.pe_fusion.specs.Shapes.{elements_by, elements_in, elements_of, numbers, region_place, replica_elements}
use Rattle.pe_fusion.specs.Totals.{one_if, times, total}
use Rattle.pe_fusion.specs.declared.regions.OperatorRegion.{OperatorRegion}
use Rattle.pe_fusion.specs.declared.pieces.NumberedPiece.{NumberedPiece}
use Rattle.pe_fusion.specs.declared.pieces.Placement.{Placement}
use Rattle.pe_fusion.specs.steps.Building.{all_elements, all_links, last_outs, outs_links, piece_elements, piece_links, start_at}
use Rattle.pe_fusion.specs.steps.Placing.{place_of, put_all, put_next, region_of}
use Rattle.pe_fusion.specs.steps.Reading.{read_by}
use Rattle.pe_fusion.specs.steps.Regions.{enter_all, operator_region}
use Rattle.pe_fusion.specs.steps.Starting.{elements_by_region, size_of, sizes, start_all}
use Rattle.pe_fusion.proofs.Totals.{total-at, total-found}
use Rattle.pe_fusion.proofs.Often.{in-often, often-in, times-often, total-often}
use Rattle.pe_fusion.proofs.Chains.{first-once, piece-number, piece-stands, reader-first}
use Rattle.pe_fusion.proofs.Connections.{output-is, position-of, reader-is}
use Rattle.pe_fusion.proofs.Counts.{few-lists, few-numbers, few-readers}
use Rattle.pe_fusion.proofs.PlanParts.{plan-once, region_chain, regions_law}
use Rattle.pe_fusion.proofs.Checked.{fits_law}
use Rattle.pe_fusion.proofs.RegionPieces.{last-stands, pieces_law, region-with-is, step-fused, step-regional}
use Rattle.pe_fusion.proofs.ReadTables.{table-is, table_of}
use Rattle.pe_fusion.proofs.Numbered.{Mirrors, get-map, numbered, put-is}
use Rattle.pe_fusion.proofs.Loops.{put-many}
use Rattle.pe_fusion.proofs.Leaders.{candidate, found, plan-below, region-none, region-own, right}

nothing-placed : (many n : ℕ) → place_of (replicate many None) n ≡ None
nothing-placed zero n = refl
nothing-placed (suc many) zero = refl
nothing-placed (suc many) (suc n) = nothing-placed many n

with-none : (rs : List Region) (n : ℕ) → region_with rs n ≡ None → in_region rs n ≡ false
with-none [] n e = refl
with-none (r ∷ rs) n e = go (is_among n r.ops) refl e (with-none rs n)
  where
    go : (b : Bool) → is_among n r.ops ≡ b → cond b (Some r) (region_with rs n) ≡ None → (region_with rs n ≡ None → in_region rs n ≡ false) → (b || in_region rs n) ≡ false
    go true a e later = absurd (cc)
    go false a e later = later e

among-often : (n : ℕ) (ns : List ℕ) → one_if (is_among n ns) ≤ how_often n ns
among-often n ns = go (is_among n ns) refl
  where
    go : (b : Bool) → is_among n ns ≡ b → one_if b ≤ how_often n ns
    go true e = let k = often-in n ns e in omega (arith, k)
    go false e = omega arith

total-le : {X : Type 0} (f h : X → ℕ) (xs : List X) → ((x : X) → f x ≤ h x) → total f xs ≤ total h xs
total-le f h [] le = omega arith
total-le f h (x ∷ xs) le = let a = le x in let rest = total-le f h xs le in let z : f x + total f xs ≤ h x + total h xs = omega (arith, a, rest) in z

total-ones : (ops : List Operator) → total (λ (o : Operator). 1) ops ≡ length ops
total-ones [] = refl
total-ones (op ∷ ops) = let rest = total-ones ops in let z : 1 + total (λ (o : Operator). 1) ops ≡ suc (length ops) = omega (arith, rest) in z

pub last-get : (op : Operator) (ops : List Operator) → slice_get (numbers (op ∷ ops)) (length (numbers ops)) ≡ Some (last_of op ops).number
last-get op [] = refl
last-get op (next ∷ ops) = last-get next ops

outer-same : (f h : ℕ → ℕ) (e o : ℕ) (rs : List (ℕ × ℕ)) → ((i : ℕ) (r : ℕ × ℕ) → slice_get rs i ≡ Some r → f r.0 ≡ h r.0) → outer_links f e o rs ≡ outer_links h e o rs
outer-same f h e o [] same = refl
outer-same f h e o (r ∷ rs) same =
    ap (λ n. record { from = e; output = o; to = n; input = r.1 } ∷ outer_links f e (suc o) rs) (same 0 r refl)
    ∙ ap (λ ls. record { from = e; output = o; to = h r.0; input = r.1 } ∷ ls) (outer-same f h e (suc o) rs (λ i q at. same (suc i) q at))

flat-same : (f h : ℕ → List (ℕ × ℕ)) (outs : List ℕ) → ((s : ℕ) → f s ≡ h s) → flat_map f outs ≡ flat_map h outs
flat-same f h [] same = refl
flat-same f h (s ∷ outs) same = ap (λ rs. rs ++ flat_map f outs) (same s) ∙ ap (λ rs. h s ++ rs) (flat-same f h outs same)

numbers-of : (ops : List Operator) → ((m : ℕ) (o : Operator) → slice_get ops m ≡ Some o → o.number ≡ m) → (ns : List ℕ) → ((n : ℕ) → Contains ns n → (o : Operator) × (slice_get ops n ≡ Some o)) → numbers (filter_map (slice_get ops) ns) ≡ ns
numbers-of ops own [] there = refl
numbers-of ops own (n ∷ ns) there =
    let o = there n (contains_here n ns) in
    ap (λ x. numbers (cons_option x (filter_map (slice_get ops) ns))) o.1
    ∙ ap (λ m. m ∷ numbers (filter_map (slice_get ops) ns)) (own n o.0 o.1)
    ∙ ap (λ ms. n ∷ ms) (numbers-of ops own ns (λ m h. there m (contains_later n m ns h)))

pub all-connections : (c : CheckedGraph) (n : ℕ) (ops : List Op) (parts : List CheckedClauses) → length parts ≡ length ops
    → length (concat (map connections (operators_from c n ops parts))) ≡ sum_by (λ (op : Op). sum_by length op.ins) ops
all-connections c n [] parts same = refl
all-connections c n (op ∷ ops) [] same = absurd (let k : 0 ≡ suc (length ops) = same in omega (arith, k))
all-connections c n (op ∷ ops) (part ∷ parts) same =
    length-append (concat op.ins) (concat (map connections (operators_from c (suc n) ops parts)))
    ∙ ap (λ i. i + length (concat (map connections (operators_from c (suc n) ops parts)))) (count_concat op.ins)
    ∙ ap (λ i. sum_by length op.ins + i) (all-connections c (suc n) ops parts (let k : suc (length parts) ≡ suc (length ops) = same in omega (arith, k)))
    ∙ sym (sum_by-cons (λ (op : Op). sum_by length op.ins) op ops)

module _ (c : CheckedGraph) (k : Keeps c) (plan : List Region) (w : ℕ) (is : IsPlan (graph_of c) plan) where
  abbrev g : Graph
  g = graph_of c

  abbrev regions : List Region
  regions = replicated w plan

  abbrev table : List (Option OperatorRegion)
  table = enter_all w 0 plan (replicate (length c.graph.ops) None)

  abbrev pieces : List Piece
  pieces = pieces_of (graph_of c) (replicated w plan)

  fits : GraphFits g
  fits = fits_law c k

  are : AreRegions g regions
  are = regions_law g plan w (fits_law c k) is

  fused : AreFused g (in_topo g) pieces
  fused = (pieces_law g regions fits are).0

  -- ---- placing

  put-pieces : (done ops : List Operator) (ps : List Piece) (state : Placement) → in_topo g ≡ done ++ ops → AreFused g done ps → Each (Regional regions) ps → Mirrors table done ps state
      → length state.places ≡ length c.graph.ops → (put_all c.graph table (table_of c) state (numbers ops)).pieces ≡ map (numbered table) (placed (takes g regions) ps ops)
  put-pieces done [] ps state split h regional m many = m.same
  put-pieces done (op ∷ ops) ps state split h regional m many =
      put-pieces (done ++ op ∷ []) ops (place (takes g regions) ps op) (put_next c.graph table (table_of c) state op.number) (split ∙ sym (append_assoc done (op ∷ []) ops))
      (step-fused g fits regions are done ops op ps split h regional) (step-regional g fits regions are done ops op ps split h regional)
      (put-is g fits regions are table done ops op ps split h regional state m below (candidate c k plan w is done ops op ps split h regional state m below)
      (found c k plan w is done ops op ps split h regional state m below) (right c k plan w is done ops op ps split h regional state m below))
      (put-many (candidate c k plan w is done ops op ps split h regional state m below) op.number (region_of table op.number) state ∙ many)
    where
      below : op.number < length state.places
      below =
          let there = fits.there op (record { before = done; behind = ops; are = split }) in
          let lt = slice_get_within g.ops op.number op there in
          let same = same_length c g k refl in
          omega (arith, lt, same, many)

  topo-there : (n : ℕ) → Contains c.graph.topo n → (o : Operator) × (slice_get g.ops n ≡ Some o)
  topo-there n h = operator_there c g k refl n ((k.graph.ordered.all n).0 h)

  topo-numbers : numbers (in_topo g) ≡ c.graph.topo
  topo-numbers = numbers-of g.ops fits.numbered c.graph.topo topo-there

  pub pieces-are : (put_all c.graph table (table_of c) (record { pieces = []; places = replicate (length c.graph.ops) None }) c.graph.topo).pieces ≡ map (numbered table) pieces
  pieces-are =
      ap (λ ns. (put_all c.graph table (table_of c) (record { pieces = []; places = replicate (length c.graph.ops) None }) ns).pieces) (sym topo-numbers)
      ∙ put-pieces [] (in_topo g) [] (record { pieces = []; places = replicate (length c.graph.ops) None }) refl (record { all = λ f. refl; fused = tt; feeds = tt }) tt
      (record { same = refl; here = λ j n q at has. absurd (cc); nowhere = λ n none. nothing-placed (length c.graph.ops) n })
      (length-replicate (length c.graph.ops) None)

  -- ---- regions

  pub record RegionIs (p : Piece) : Type 0 where
    pub region : Region
    pub place : ℕ
    pub at : slice_get plan place ≡ Some region
    pub first : ℕ
    pub inside : region_in regions p ≡ Some region
    pub found : region_of table p.first.number ≡ Some (operator_region w place region first)
    pub placed : region_place plan p.first.number ≡ Some place

  pub region-cases : (p : Piece) → ((region_in regions p ≡ None) × (region_of table p.first.number ≡ None)) ⊎ RegionIs p
  region-cases p = go (region_in regions p) refl
    where
      go : (o : Option Region) → region_in regions p ≡ o → ((region_in regions p ≡ None) × (region_of table p.first.number ≡ None)) ⊎ RegionIs p
      go None e = inl (e, region-none c k plan w is p.first.number (with-none regions p.first.number e))
      go (Some r) e =
          let x = region-with-is regions p.first.number r e in
          let own = region-own c k plan w is x.0 p.first.number r x.1 (often-in p.first.number r.ops x.2) in
          let once = plan-once g fits plan is p.first.number in
          let all = total-often p.first.number plan in
          let le = total-le (λ (q : Region). one_if (is_among p.first.number q.ops)) (λ (q : Region). how_often p.first.number q.ops) plan (λ q. among-often p.first.number q.ops) in
          inr (record {
            region = r;
            place = own.place;
            at = own.at;
            first = own.first;
            inside = e;
            found = own.found;
            placed = position-of (λ (q : Region). is_among p.first.number q.ops) plan own.place r (omega (arith, once, all, le)) own.at x.2;
          })

  -- ---- elements

  elements-one : (p : Piece) → piece_elements (region_of table p.first.number) (numbers (ops_in p)) ≡ elements_in plan regions w p
  elements-one p = go (region-cases p)
    where
      go : ((region_in regions p ≡ None) × (region_of table p.first.number ≡ None)) ⊎ RegionIs p → piece_elements (region_of table p.first.number) (numbers (ops_in p)) ≡ elements_in plan regions w p
      go (inl a) =
          ap (λ o. piece_elements o (numbers (ops_in p))) a.1
          ∙ ap (λ o. elements_by (region_place plan p.first.number) w o (numbers (ops_in p))) (sym a.0)
      go (inr r) =
          ap (λ o. piece_elements o (numbers (ops_in p))) r.found
          ∙ ap (λ o. elements_by o w (Some r.region) (numbers (ops_in p))) (sym r.placed)
          ∙ ap (λ o. elements_by (region_place plan p.first.number) w o (numbers (ops_in p))) (sym r.inside)

  elements-all : (ps : List Piece) → all_elements (map (numbered table) ps) ≡ elements_of plan regions w ps
  elements-all [] = refl
  elements-all (p ∷ ps) =
      ap (λ es. es ++ all_elements (map (numbered table) ps)) (elements-one p)
      ∙ ap (λ es. elements_in plan regions w p ++ es) (elements-all ps)

  pub elements-are : all_elements (map (numbered table) pieces) ≡ elements_of plan regions w pieces
  elements-are = elements-all pieces

  -- ---- sizes

  size-one : (p : Piece) → size_of (numbered table p) ≡ size_by w (region_in regions p)
  size-one p = go (region-cases p)
    where
      go : ((region_in regions p ≡ None) × (region_of table p.first.number ≡ None)) ⊎ RegionIs p → size_of (numbered table p) ≡ size_by w (region_in regions p)
      go (inl a) = ap elements_by_region a.1 ∙ ap (size_by w) (sym a.0)
      go (inr r) = ap elements_by_region r.found ∙ ap (size_by w) (sym r.inside)

  replicas-long : (region : Option ℕ) (ids : List ℕ) (d n : ℕ) → length (replica_elements region ids d n) ≡ n
  replicas-long region ids d zero = refl
  replicas-long region ids d (suc n) = ap suc (replicas-long region ids (suc d) n)

  elements-long : (place : Option ℕ) (o : Option Region) (ids : List ℕ) → length (elements_by place w o ids) ≡ size_by w o
  elements-long place None ids = refl
  elements-long place (Some r) ids =
      let last : List ShapeElement = record { role = L.Merger; region = place; ids = ids } ∷ [] in
      let a = length-append (replica_elements place ids 0 (width_of r w)) last in
      let b = replicas-long place ids 0 (width_of r w) in
      let one : length last ≡ 1 = refl in
      let z : suc (length (replica_elements place ids 0 (width_of r w) ++ last)) ≡ width_of r w + 2 = omega (arith, a, b, one) in z

  sizes-all : (ps : List Piece) → sizes (map (numbered table) ps) ≡ length (elements_of plan regions w ps)
  sizes-all [] = refl
  sizes-all (p ∷ ps) =
      let a = size-one p in
      let b = elements-long (region_place plan p.first.number) (region_in regions p) (numbers (ops_in p)) in
      let d = length-append (elements_in plan regions w p) (elements_of plan regions w ps) in
      let rest = sizes-all ps in
      let z : size_of (numbered table p) + sizes (map (numbered table) ps) ≡ length (elements_in plan regions w p ++ elements_of plan regions w ps) = omega (arith, a, b, d, rest) in z

  pub sizes-are : sizes (map (numbered table) pieces) ≡ length (elements_of plan regions w pieces)
  sizes-are = sizes-all pieces

  -- ---- where pieces begin

  start-others : (starts : List ℕ) (start : ℕ) (ps : List Piece) (n : ℕ) → times (λ (p : Piece). p.first.number == n) ps ≡ 0 → slice_get (start_all starts start (map (numbered table) ps)) n ≡ slice_get starts n
  start-others starts start [] n none = refl
  start-others starts start (p ∷ ps) n none =
      let all : one_if (p.first.number == n) + times (λ (p : Piece). p.first.number == n) ps ≡ 0 = none in
      start-others (set starts p.first.number start) (start + size_of (numbered table p)) ps n (omega (arith, all))
      ∙ set_elsewhere starts p.first.number n start (λ e. let one : one_if (p.first.number == n) ≡ 1 = ap one_if (eq-eqb p.first.number n e) in absurd (omega (arith, all, one)))

  start-own : (starts : List ℕ) (start : ℕ) (ps : List Piece) (j : ℕ) (q : Piece) → slice_get ps j ≡ Some q → times (λ (p : Piece). p.first.number == q.first.number) ps ≤ 1 → q.first.number < length starts
      → slice_get (start_all starts start (map (numbered table) ps)) q.first.number ≡ Some (start + entry_at regions w ps q.first.number)
  start-own starts start [] j q at most lt = absurd (cc)
  start-own starts start (p ∷ ps) zero q at most lt =
      let same : p ≡ q = cc in
      let number : p.first.number ≡ q.first.number = ap (λ (z : Piece). z.first.number) same in
      let all : one_if (p.first.number == q.first.number) + times (λ (p : Piece). p.first.number == q.first.number) ps ≤ 1 = most in
      let one : one_if (p.first.number == q.first.number) ≡ 1 = ap one_if (eq-eqb p.first.number q.first.number number) in
      start-others (set starts p.first.number start) (start + size_of (numbered table p)) ps q.first.number (omega (arith, all, one))
      ∙ ap (λ n. slice_get (set starts n start) q.first.number) number
      ∙ set_here starts q.first.number start lt
      ∙ ap (λ n. Some n) (let first = cond-true (p.first.number == q.first.number) 0 (size_by w (region_in regions p) + entry_at regions w ps q.first.number) (eq-eqb p.first.number q.first.number number) in
      let z : start ≡ start + entry_at regions w (p ∷ ps) q.first.number = omega (arith, first) in z)
  start-own starts start (p ∷ ps) (suc j) q at most lt =
      let all : one_if (p.first.number == q.first.number) + times (λ (p : Piece). p.first.number == q.first.number) ps ≤ 1 = most in
      let there = total-at (λ (p : Piece). one_if (p.first.number == q.first.number)) ps j q at in
      let one : one_if (q.first.number == q.first.number) ≡ 1 = ap one_if (eq-eqb q.first.number q.first.number refl) in
      let apart : p.first.number ≡ q.first.number → ⊥ = λ same. (let first : one_if (p.first.number == q.first.number) ≡ 1 = ap one_if (eq-eqb p.first.number q.first.number same) in absurd (omega (arith, first, there, one, all))) in
      let long = length-set starts p.first.number start in
      let size = size-one p in
      let entry = cond-false (p.first.number == q.first.number) 0 (size_by w (region_in regions p) + entry_at regions w ps q.first.number) (ne_eqb p.first.number q.first.number apart) in
      start-own (set starts p.first.number start) (start + size_of (numbered table p)) ps j q at (omega (arith, all)) (omega (arith, long, lt))
      ∙ ap (λ n. Some n) (let z : start + size_of (numbered table p) + entry_at regions w ps q.first.number ≡ start + entry_at regions w (p ∷ ps) q.first.number = omega (arith, size, entry) in z)

  abbrev starts : List ℕ
  starts = start_all (replicate (length c.graph.ops) 0) 0 (map (numbered (enter_all w 0 plan (replicate (length c.graph.ops) None))) (pieces_of (graph_of c) (replicated w plan)))

  first-below : (j : ℕ) (p : Piece) → slice_get pieces j ≡ Some p → p.first.number < length c.graph.ops
  first-below j p at =
      let lt = slice_get_within g.ops p.first.number p.first (piece-number g fits pieces fused j p at) in
      let same = same_length c g k refl in
      omega (arith, lt, same)

  starts-at : (j : ℕ) (p : Piece) → slice_get pieces j ≡ Some p → start_at starts p.first.number ≡ entry_at regions w pieces p.first.number
  starts-at j p at =
      let lt = first-below j p at in
      let many = length-replicate {A = ℕ} (length c.graph.ops) 0 in
      let own = start-own (replicate (length c.graph.ops) 0) 0 pieces j p at (first-once g fits pieces fused j p at) (omega (arith, lt, many)) in
      ap (λ o. unwrap_or o 0) own ∙ (let z : 0 + entry_at regions w pieces p.first.number ≡ entry_at regions w pieces p.first.number = omega arith in z)

  -- ---- links

  last-stands-at : (j : ℕ) (p : Piece) → slice_get pieces j ≡ Some p → Stands g (last_in p)
  last-stands-at j p at = let s = piece-stands g fits pieces fused j p at in last-stands g p.first p.behind s.0 s.1

  pub last-is : (j : ℕ) (p : Piece) → slice_get pieces j ≡ Some p → last_outs c.graph.ops (numbers (ops_in p)) ≡ (last_in p).outs
  last-is j p at =
      let o = operator_at c g refl (last_in p).number (last_in p) (fits.there (last_in p) (last-stands-at j p at)) in
      let one : length (p.first.number ∷ numbers p.behind) - 1 ≡ length (numbers p.behind) = (let z : suc (length (numbers p.behind)) - 1 ≡ length (numbers p.behind) = omega arith in z) in
      ap (λ i. option_map_or (λ (op : Op). op.outs) (option_and_then (slice_get c.graph.ops) (slice_get (numbers (ops_in p)) i)) []) one
      ∙ ap (λ x. option_map_or (λ (op : Op). op.outs) (option_and_then (slice_get c.graph.ops) x) []) (last-get p.first p.behind)
      ∙ ap (λ x. option_map_or (λ (op : Op). op.outs) x []) o.there
      ∙ sym (ap (λ (z : Operator). z.outs) o.same)

  outs-same : (j : ℕ) (p : Piece) → slice_get pieces j ≡ Some p → (e : ℕ) → outs_links starts (table_of c) e (last_outs c.graph.ops (numbers (ops_in p))) ≡ outer_links (entry_at regions w pieces) e 0 (readers_of g p)
  outs-same j p at e =
      ap (outs_links starts (table_of c) e) (last-is j p at)
      ∙ ap (outer_links (start_at starts) e 0) (flat-same (read_by (table_of c)) (readers g) (last_in p).outs (table-is c k))
      ∙ outer-same (start_at starts) (entry_at regions w pieces) e 0 (readers_of g p) same
    where
      same : (i : ℕ) (r : ℕ × ℕ) → slice_get (readers_of g p) i ≡ Some r → start_at starts r.0 ≡ entry_at regions w pieces r.0
      same i r there =
          let out = output-is g 0 (last_in p).outs i r there in
          let rd = reader-is g.ops out.stream out.place r out.reads in
          let one = total-at (λ t. one_if (t == out.stream)) (last_in p).outs out.port out.stream out.is in
          let counts : one_if (out.stream == out.stream) ≡ 1 = ap one_if (eq-eqb out.stream out.stream refl) in
          let all = total-at (λ (q : Piece). times (λ t. t == out.stream) (last_in q).outs) pieces j p at in
          let rf = reader-first g fits pieces fused rd.place r.1 out.stream rd.op rd.is rd.input (omega (arith, one, counts, all)) in
          let number : (rf.1).first.number ≡ r.0 = ap (λ (o : Operator). o.number) rf.3 ∙ sym rd.number in
          ap (start_at starts) (sym number) ∙ starts-at rf.0 rf.1 rf.2 ∙ ap (entry_at regions w pieces) number

  links-one : (p : Piece) → ((e : ℕ) → outs_links starts (table_of c) e (last_outs c.graph.ops (numbers (ops_in p))) ≡ outer_links (entry_at regions w pieces) e 0 (readers_of g p))
      → (e : ℕ) → piece_links starts (table_of c) e (region_of table p.first.number) (last_outs c.graph.ops (numbers (ops_in p))) ≡ links_in g w (region_in regions p) (entry_at regions w pieces) e p
  links-one p same e = go (region-cases p)
    where
      go : ((region_in regions p ≡ None) × (region_of table p.first.number ≡ None)) ⊎ RegionIs p
          → piece_links starts (table_of c) e (region_of table p.first.number) (last_outs c.graph.ops (numbers (ops_in p))) ≡ links_in g w (region_in regions p) (entry_at regions w pieces) e p
      go (inl a) =
          ap (λ o. piece_links starts (table_of c) e o (last_outs c.graph.ops (numbers (ops_in p)))) a.1
          ∙ same e
          ∙ ap (λ o. links_in g w o (entry_at regions w pieces) e p) (sym a.0)
      go (inr r) =
          ap (λ o. piece_links starts (table_of c) e o (last_outs c.graph.ops (numbers (ops_in p)))) r.found
          ∙ ap (λ ls. channel_links e 0 (width_of r.region w) ++ (merger_links (e + 1) 0 (width_of r.region w) ++ ls)) (same (e + width_of r.region w + 1))
          ∙ ap (λ o. links_in g w o (entry_at regions w pieces) e p) (sym r.inside)

  links-all : (ps : List Piece) → ((i : ℕ) (p : Piece) → slice_get ps i ≡ Some p → (e : ℕ) → outs_links starts (table_of c) e (last_outs c.graph.ops (numbers (ops_in p))) ≡ outer_links (entry_at regions w pieces) e 0 (readers_of g p))
      → (e : ℕ) → all_links c.graph.ops starts (table_of c) e (map (numbered table) ps) ≡ links_at g regions w (entry_at regions w pieces) e ps
  links-all [] same e = refl
  links-all (p ∷ ps) same e =
      ap (λ ls. ls ++ all_links c.graph.ops starts (table_of c) (e + size_of (numbered table p)) (map (numbered table) ps)) (links-one p (same 0 p refl) e)
      ∙ ap (λ ls. links_in g w (region_in regions p) (entry_at regions w pieces) e p ++ ls)
      (links-all ps (λ i q at. same (suc i) q at) (e + size_of (numbered table p)) ∙ ap (λ n. links_at g regions w (entry_at regions w pieces) (e + n) ps) (size-one p))

  pub links-are : all_links c.graph.ops starts (table_of c) 0 (map (numbered table) pieces) ≡ links_at g regions w (entry_at regions w pieces) 0 pieces
  links-are = links-all pieces outs-same 0

  -- ---- limits

  number-below : (n : ℕ) → 0 < how_often n (concat (map (λ (r : Region). r.ops) plan)) → n < length c.graph.ops
  number-below n h =
      let all = total-often n plan in
      let r = total-found (λ (r : Region). how_often n r.ops) plan (omega (arith, all, h)) in
      plan-below c k plan w is r.at n r.item r.is (contains_from_any n (r.item).ops (in-often n (r.item).ops r.counts))

  pub few-regions : length plan < 4294967296
  few-regions =
      let a = few-lists plan (λ i r at. let chain = region_chain g fits plan i r is at in let e : suc (length (numbers chain.behind)) ≡ length r.ops = ap (λ (ns : List ℕ). length ns) chain.numbers in omega (arith, e)) in
      let b = few-numbers (length c.graph.ops) (concat (map (λ (r : Region). r.ops) plan)) (plan-once g fits plan is) number-below in
      let d = k.graph.operators in
      omega (arith, a, b, d)

  topo-often : (n : ℕ) → how_often n c.graph.topo ≤ 1
  topo-often n = go (how_often n c.graph.topo) refl
    where
      go : (i : ℕ) → how_often n c.graph.topo ≡ i → how_often n c.graph.topo ≤ 1
      go zero e = omega (arith, e)
      go (suc i) e =
          let o = topo-there n (contains_from_any n c.graph.topo (in-often n c.graph.topo (omega (arith, e)))) in
          let once = fits.once n o.0 o.1 in
          let all = times-often n (in_topo g) in
          let same : how_often n (numbers (in_topo g)) ≡ how_often n c.graph.topo = ap (how_often n) topo-numbers in
          omega (arith, once, all, same)

  few-pieces : length pieces ≤ 256
  few-pieces =
      let a = at-least pieces in
      let b = fused.all (λ (o : Operator). 1) in
      let d = total-ones (in_topo g) in
      let e = length-map (in_topo g) (λ (o : Operator). o.number) in
      let f : length (numbers (in_topo g)) ≡ length c.graph.topo = ap (λ (ns : List ℕ). length ns) topo-numbers in
      let n = few-numbers (length c.graph.ops) c.graph.topo topo-often (λ m h. (k.graph.ordered.all m).0 (contains_from_any m c.graph.topo (in-often m c.graph.topo h))) in
      let z = k.graph.operators in
      omega (arith, a, b, d, e, f, n, z)
    where
      at-least : (ps : List Piece) → length ps ≤ in_all (λ (o : Operator). 1) ps
      at-least [] = omega arith
      at-least (p ∷ ps) = let rest = at-least ps in let z : suc (length ps) ≤ 1 + total (λ (o : Operator). 1) p.behind + in_all (λ (o : Operator). 1) ps = omega (arith, rest) in z

  pub few-elements : w ≤ 16 → sizes (map (numbered table) pieces) < 4294967296
  few-elements narrow = let a = most pieces in let b = few-pieces in omega (arith, a, b)
    where
      size-most : (o : Option Region) → size_by w o ≤ 18
      size-most None = omega arith
      size-most (Some r) = let n = narrow in let z : w + 2 ≤ 18 = omega (arith, n) in z

      most : (ps : List Piece) → sizes (map (numbered table) ps) ≤ length ps * 18
      most [] = omega arith
      most (p ∷ ps) =
          let a = size-one p in
          let b = size-most (region_in regions p) in
          let rest = most ps in
          let z : size_of (numbered table p) + sizes (map (numbered table) ps) ≤ suc (length ps) * 18 = omega (arith, a, b, rest) in z

  pub firsts-below : (i n : ℕ) (q : NumberedPiece) → slice_get (map (numbered table) pieces) i ≡ Some q → slice_get q.ids 0 ≡ Some n → n < length c.graph.ops
  firsts-below i n q at first =
      let p = get-map (numbered table) pieces i q at in
      let same : Some (p.0).first.number ≡ Some n = ap (λ (z : NumberedPiece). slice_get z.ids 0) p.2 ∙ first in
      let number : (p.0).first.number ≡ n = cc in
      let lt = first-below i p.0 p.1 in
      omega (arith, lt, number)

  pub few-outs : (i : ℕ) (q : NumberedPiece) → slice_get (map (numbered table) pieces) i ≡ Some q → length (flat_map (read_by (table_of c)) (last_outs c.graph.ops q.ids)) < 4294967296
  few-outs i q at =
      let p = get-map (numbered table) pieces i q at in
      let outs : last_outs c.graph.ops q.ids ≡ (last_in p.0).outs = ap (λ (z : NumberedPiece). last_outs c.graph.ops z.ids) (sym p.2) ∙ last-is i p.0 p.1 in
      let same : length (flat_map (read_by (table_of c)) (last_outs c.graph.ops q.ids)) ≡ length (flat_map (readers g) (last_in p.0).outs) =
      ap (λ ss. length (flat_map (read_by (table_of c)) ss)) outs ∙ ap (λ (rs : List (ℕ × ℕ)). length rs) (flat-same (read_by (table_of c)) (readers g) (last_in p.0).outs (table-is c k)) in
      let few = few-readers g (last_in p.0).outs (λ t. fits.apart (last_in p.0) t (last-stands-at i p.0 p.1)) in
      let all = all-connections c 0 c.graph.ops c.parts k.parts in
      let limit = k.graph.connections in
      let power : 2 ^ 30 ≡ 1073741824 = refl in
      omega (arith, same, few, all, limit, power)

-- the connections of a stream are few
pub few-reads : (c : CheckedGraph) → Keeps c → (s : ℕ) → length (read_by (table_of c) s) < 4294967296
few-reads c k s =
    let same : length (read_by (table_of c) s) ≡ length (readers (graph_of c) s) = ap (λ (rs : List (ℕ × ℕ)). length rs) (table-is c k s) in
    let alone = length-append (readers (graph_of c) s) [] in
    let few = few-readers (graph_of c) (s ∷ []) (λ t. one t (s == t)) in
    let all = all-connections c 0 c.graph.ops c.parts k.parts in
    let limit = k.graph.connections in
    let power : 2 ^ 30 ≡ 1073741824 = refl in
    omega (arith, same, alone, few, all, limit, power)
  where
    one : (t : ℕ) (b : Bool) → one_if b + 0 ≤ 1
    one t true = omega arith
    one t false = omega arith
