-- The elements of a shape are those of the network.
use Rattle.std.proofs.Common.{ℕ, zero, suc, List, [], ◌∷◌, ◌++◌, ◌≡◌, ◌⊎◌, inl, inr, refl, sym, ap, ◌∙◌, subst, length, map, replicate, Option, None, Some, slice_get}
use Rattle.std.specs.Option.{unwrap_or}
use Rattle.language_model.specs.CheckedGraph.{CheckedGraph}
use Rattle.language_model.specs.Keeping.{Keeps}
use Rattle.stream_model.specs.declared.plan.Region.{Region}
use Rattle.stream_model.specs.declared.shape.Role.{Role}
use Rattle.stream_model.specs.declared.shape.Role.TheVariants as L
use Rattle.stream_model.specs.CheckedMeaning.{graph_of}
use Rattle.stream_model.specs.Meaning.{Graph}
use Rattle.stream_model.specs.Regions.{IsPlan, width_of}
use Rattle.network_model.specs.Networks.{RegionPart, Replica, Merger}
use Rattle.stream_model.specs.Fans.{fan_ports_from, ports_of_fans}
use Rattle.pe_fusion.specs.ElementPorts.{connections_of_outs}
use Rattle.pe_fusion.specs.Fusing.{AreRegions}
use Rattle.pe_fusion.specs.FusedNets.{chain_of, no_part, outputs_in, parts_at, parts_in, ports_of_outputs, region_in, region_part, replicas_of}
use Rattle.pe_fusion.specs.Pieces.{Piece, last_in, ops_in, pieces_of, replicated}
use Rattle.pe_fusion.specs.Readers.{readers}
use Rattle.pe_fusion.specs.ShapeLaws.{ElementsLaw, IsTold, OfRegion, Tells}
use Rattle.pe_fusion.specs.Shapes.{element, elements_by, elements_in, elements_of, numbers, region_place, replica_elements}
use Rattle.pe_fusion.specs.steps.Placing.{region_of}
use Rattle.pe_fusion.specs.steps.Regions.{enter_all}
use Rattle.pe_fusion.proofs.PlanParts.{regions_law}
use Rattle.pe_fusion.proofs.Checked.{fits_law}
use Rattle.pe_fusion.proofs.RegionPieces.{whole_law}
use Rattle.pe_fusion.proofs.Wired.{by-source}
use Rattle.pe_fusion.proofs.FusedShapes.{RegionIs, last-is, region-cases}

-- ---- lists of which each item has its own of another one

abbrev Both : {X Y : Type 0} → (X → Y → Type 0) → List X → List Y → Type 0
Both R [] [] = Unit {0}
Both R [] (y ∷ ys) = ⊥
Both R (x ∷ xs) [] = ⊥
Both R (x ∷ xs) (y ∷ ys) = R x y × Both R xs ys

both-append : {X Y : Type 0} (R : X → Y → Type 0) (xs more : List X) (ys others : List Y) → Both R xs ys → Both R more others → Both R (xs ++ more) (ys ++ others)
both-append R [] more [] others h k = k
both-append R [] more (y ∷ ys) others h k = absurd h
both-append R (x ∷ xs) more [] others h k = absurd h
both-append R (x ∷ xs) more (y ∷ ys) others h k = (h.0, both-append R xs more ys others h.1 k)

both-long : {X Y : Type 0} (R : X → Y → Type 0) (xs : List X) (ys : List Y) → Both R xs ys → length ys ≡ length xs
both-long R [] [] h = refl
both-long R [] (y ∷ ys) h = absurd h
both-long R (x ∷ xs) [] h = absurd h
both-long R (x ∷ xs) (y ∷ ys) h = ap suc (both-long R xs ys h.1)

both-at : {X Y : Type 0} (R : X → Y → Type 0) (xs : List X) (ys : List Y) (i : ℕ) (y : Y) → Both R xs ys → slice_get ys i ≡ Some y → (x : X) × (slice_get xs i ≡ Some x) × R x y
both-at R [] [] i y h at = absurd (cc)
both-at R [] (z ∷ ys) i y h at = absurd h
both-at R (x ∷ xs) [] i y h at = absurd h
both-at R (x ∷ xs) (z ∷ ys) zero y h at = let same : z ≡ y = cc in (x, refl, subst (R x) same h.0)
both-at R (x ∷ xs) (z ∷ ys) (suc i) y h at = both-at R xs ys i y h.1 at

-- ---- outputs

same-port : (p : ℕ) (rs : List (ℕ × ℕ)) → map (λ r. p) rs ≡ replicate (length rs) p
same-port p [] = refl
same-port p (r ∷ rs) = ap (λ ps. p ∷ ps) (same-port p rs)

ports-same : (g : Graph) (p : ℕ) (outs : List ℕ) → ports_of_outputs g p outs ≡ fan_ports_from p (map (λ s. length (readers g s)) outs)
ports-same g p [] = refl
ports-same g p (s ∷ outs) =
    ap (λ ps. ps ++ ports_of_outputs g (suc p) outs) (same-port p (readers g s))
    ∙ ap (λ ps. replicate (length (readers g s)) p ++ ps) (ports-same g (suc p) outs)

module _ (c : CheckedGraph) (k : Keeps c) (plan : List Region) (w : ℕ) (is : IsPlan (graph_of c) plan) where
  abbrev g : Graph
  g = graph_of c

  abbrev regions : List Region
  regions = replicated w plan

  abbrev pieces : List Piece
  pieces = pieces_of (graph_of c) (replicated w plan)

  are : AreRegions g regions
  are = regions_law g plan w (fits_law c k) is

  outs-told : (j : ℕ) (p : Piece) → slice_get pieces j ≡ Some p → outputs_in g p ≡ ports_of_fans (connections_of_outs c (numbers (ops_in p)))
  outs-told j p at = ports-same g 0 (last_in p).outs ∙ ap (λ outs. fan_ports_from 0 (map (λ s. length (readers g s)) outs)) (sym (last-is c k plan w is j p at))

  chain-told : (j : ℕ) (p : Piece) → slice_get pieces j ≡ Some p → Tells c plan w (chain_of p.first p.behind (outputs_in g p)) (element L.Chain None (numbers (ops_in p)))
  chain-told j p at =
      by-source (λ part. Tells c plan w part (element L.Chain None (numbers (ops_in p)))) p.first p.behind (outputs_in g p)
      (λ e. (refl, refl, refl, outs-told j p at)) (λ e. (refl, refl, refl, outs-told j p at))

  replicas-told : (r : RegionPart) (place : Option ℕ) (ids : List ℕ) (channel n : ℕ) → ((d : ℕ) → Tells c plan w (Replica r d) (element (L.Replica d) place ids))
      → Both (Tells c plan w) (replicas_of r channel n) (replica_elements place ids channel n)
  replicas-told r place ids channel zero each = tt
  replicas-told r place ids channel (suc n) each = (each channel, replicas-told r place ids (suc channel) n each)

  region-told : (j : ℕ) (p : Piece) → slice_get pieces j ≡ Some p → (r : RegionIs c k plan w is p)
      → Both (Tells c plan w) (parts_in g w (Some r.region) p) (elements_by (Some r.place) w (Some r.region) (numbers (ops_in p)))
  region-told j p at r = (
    (refl, own L.Splitter),
    both-append (Tells c plan w) (replicas_of part 0 (width_of r.region w)) (Merger part (outputs_in g p) ∷ []) (replica_elements (Some r.place) ids 0 (width_of r.region w)) (element L.Merger (Some r.place) ids ∷ [])
        (replicas-told part (Some r.place) ids 0 (width_of r.region w) (λ d. (refl, own (L.Replica d))))
        ((refl, own L.Merger, outs-told j p at), tt),
  )
    where
      part : RegionPart
      part = region_part g w r.region

      ids : List ℕ
      ids = numbers (ops_in p)

      ops : numbers (ops_in p) ≡ (r.region).ops
      ops =
          let h = whole_law g regions (fits_law c k) are j p r.region at r.inside in
          let chain = are.chains h.place r.region h.at in
          ap numbers (sym h.ops ∙ chain.are) ∙ chain.numbers

      own : (role : Role) → OfRegion c plan w (region_part g w r.region) (element role (Some r.place) (numbers (ops_in p)))
      own role = record { place = r.place; region = r.region; here = refl; at = r.at; runs = refl; ids = ops }

  piece-told : (j : ℕ) (p : Piece) → slice_get pieces j ≡ Some p → Both (Tells c plan w) (parts_in g w (region_in regions p) p) (elements_in plan regions w p)
  piece-told j p at = go (region-cases c k plan w is p)
    where
      go : ((region_in regions p ≡ None) × (region_of (enter_all w 0 plan (replicate (length c.graph.ops) None)) p.first.number ≡ None)) ⊎ RegionIs c k plan w is p → Both (Tells c plan w) (parts_in g w (region_in regions p) p) (elements_in plan regions w p)
      go (inl a) = subst (λ o. Both (Tells c plan w) (parts_in g w o p) (elements_by (region_place plan p.first.number) w o (numbers (ops_in p)))) (sym a.0) (chain-told j p at, tt)
      go (inr r) =
          subst (λ o. Both (Tells c plan w) (parts_in g w o p) (elements_by (region_place plan p.first.number) w o (numbers (ops_in p)))) (sym r.inside)
          (subst (λ o. Both (Tells c plan w) (parts_in g w (Some r.region) p) (elements_by o w (Some r.region) (numbers (ops_in p)))) (sym r.placed) (region-told j p at r))

  all-told : (ps : List Piece) → ((i : ℕ) (p : Piece) → slice_get ps i ≡ Some p → Both (Tells c plan w) (parts_in g w (region_in regions p) p) (elements_in plan regions w p))
      → Both (Tells c plan w) (parts_at g regions w ps) (elements_of plan regions w ps)
  all-told [] each = tt
  all-told (p ∷ ps) each =
      both-append (Tells c plan w) (parts_in g w (region_in regions p) p) (parts_at g regions w ps) (elements_in plan regions w p) (elements_of plan regions w ps)
      (each 0 p refl) (all-told ps (λ i q at. each (suc i) q at))

  told : (capacity : ℕ) → IsTold c plan w capacity
  told capacity = record {
    many = both-long (Tells c plan w) (parts_at g regions w pieces) (elements_of plan regions w pieces) (all-told pieces piece-told);
    each = λ n e at.
        (let k = both-at (Tells c plan w) (parts_at g regions w pieces) (elements_of plan regions w pieces) n e (all-told pieces piece-told) at in
        subst (λ part. Tells c plan w part e) (sym (ap (λ o. unwrap_or o no_part) k.1)) k.2);
  }

pub elements_law : ElementsLaw
elements_law c plan width capacity keeps is = told c keeps plan width is capacity
