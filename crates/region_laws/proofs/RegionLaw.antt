-- The region law.
use Rattle.std.proofs.Common.{◌≡◌, ◌<◌, ◌≤◌, ℕ, zero, suc, ◌==◌, not, Bool, true, false, List, [], ◌∷◌, ◌++◌, map, filter, refl, sym, ap, ◌∙◌, arith, cond, subst, slice_get, Option, Some, None, mod-lt}
use Rattle.std.specs.List.{AllByRecursion, concat, enumerate_from, list_all}
use Rattle.std.specs.Option.{option_map_or}
use Rattle.std.proofs.lemmas.Bool.{eqb-true, eq-eqb}
use Rattle.spl_value.proofs.Lists.{all_at}
use Rattle.spl_value.specs.declared.item.Item.{Item}
use Rattle.spl_value.specs.declared.item.Item.TheVariants as I
use Rattle.spl_value.specs.declared.routing.Routing.{Routing}
use Rattle.spl_value.specs.declared.routing.Routing.TheVariants.{Turns, Key}
use Rattle.spl_value.specs.Numbered.{by_number, cut}
use Rattle.spl_value.specs.Route.{route, part}
use Rattle.language_model.specs.CheckedGraph.{CheckedGraph}
use Rattle.language_model.specs.Keeping.{Keeps, PortsHave}
use Rattle.language_model.specs.Keeping as N
use Rattle.language_model.specs.StreamTypes.{Attributes}
use Rattle.stream_model.specs.declared.plan.Region.{Region}
use Rattle.stream_model.specs.CheckedMeaning.{graph_of}
use Rattle.stream_model.specs.Meaning.{Graph}
use Rattle.stream_model.specs.Operators.{Operator}
use Rattle.stream_model.specs.PortLaws.{has_connections}
use Rattle.stream_model.specs.Regions.{IsPlan, IsRegion, chain_key, how_often, is_eligible, ops_of}
use Rattle.stream_model.specs.Stages.{chain}
use Rattle.stream_model.specs.Stream.{is_empty}
use Rattle.stream_model.proofs.GraphParts.{operator_at}
use Rattle.region_laws.specs.RegionLaw.{ChainLaw, RegionLaw}
use Rattle.stream_model.specs.Replicas.{replica, replicas}
use Rattle.stream_model.specs.Regions.{routing_by, width_of}
use Rattle.region_laws.proofs.NumberedItems.{items, items-numbered, items-cut, on_channel, rising-numbered, cut_tagged}
use Rattle.region_laws.proofs.Unended.{IsMember, chain-rising, items-replica, unended_chain, replica-unended}
use Rattle.region_laws.proofs.Channels.{channel_in, part-is}
use Rattle.region_laws.proofs.SpreadChains.{IsSpread, channel-chain, causes-first, members}
use Rattle.region_laws.proofs.Merges.{merged-is}
use Rattle.region_laws.proofs.SafeChains.{safe_spread}

-- ---- the law of chains over whose replicas items are spread

pub route-within : (routing : Routing) (width n : ℕ) (x : Item) → 0 < width → route routing width n x < width
route-within (Key key) width n (I.Tuple vs) some = mod-lt _ some
route-within (Key key) width n I.Window some = mod-lt _ some
route-within (Key key) width n I.Final some = mod-lt _ some
route-within (Key key) width n (I.Bad f) some = mod-lt _ some
route-within Turns width n x some = mod-lt _ some

pub channel-is : (routing : Routing) (width : ℕ) (L : List Item) (op : Operator) (ops : List Operator) → IsSpread routing (λ a. Some a) (op ∷ ops) → (c : ℕ)
    → replica (op ∷ ops) (part routing width L c) ≡ cut_tagged (on_channel (channel_in routing width L) c (unended_chain (op ∷ ops) (enumerate_from 0 L)))
channel-is routing width L op ops spread c =
    replica-unended op ops (part routing width L c) (members routing (λ a. Some a) (op ∷ ops) spread)
    ∙ ap (λ z. cut_tagged (unended_chain (op ∷ ops) z)) (part-is routing width c L)
    ∙ ap cut_tagged (sym (channel-chain routing width L c (λ a. Some a) (op ∷ ops) (enumerate_from 0 L) spread (causes-first L)))

pub chain-is : (L : List Item) (op : Operator) (ops : List Operator) → AllByRecursion IsMember (op ∷ ops) → chain (op ∷ ops) L ≡ cut (items (unended_chain (op ∷ ops) (enumerate_from 0 L)))
chain-is L op ops ms =
    ap (chain (op ∷ ops)) (sym (items-numbered 0 L))
    ∙ sym (items-replica (op ∷ ops) (enumerate_from 0 L))
    ∙ ap items (replica-unended op ops (enumerate_from 0 L) ms)
    ∙ items-cut (unended_chain (op ∷ ops) (enumerate_from 0 L))

pub spread_law : (routing : Routing) (width : ℕ) (L : List Item) (op : Operator) (ops : List Operator) → IsSpread routing (λ a. Some a) (op ∷ ops) → 0 < width
    → by_number (replicas (op ∷ ops) routing width L) ≡ chain (op ∷ ops) L
spread_law routing width L op ops spread some =
    merged-is (channel_in routing width L) width (λ n. route-within routing width n _ some) (λ c. replica (op ∷ ops) (part routing width L c))
    (unended_chain (op ∷ ops) (enumerate_from 0 L)) (chain-rising (op ∷ ops) 0 (enumerate_from 0 L) (rising-numbered 0 L)) (λ c l. channel-is routing width L op ops spread c)
    ∙ sym (chain-is L op ops (members routing (λ a. Some a) (op ∷ ops) spread))

-- ---- safe chains

pub chain_law : ChainLaw
chain_law g [] width items safe connected some positive = absurd (let no : true ≡ false = some in cc)
chain_law g (op ∷ ops) width items safe connected some positive =
    spread_law (routing_by (chain_key (op ∷ ops))) width items op ops (safe_spread g (op ∷ ops) safe connected) positive

-- ---- regions of checked programs

pub ops_all : (P : Operator → Type 0) (g : Graph) → ((n : ℕ) (op : Operator) → slice_get g.ops n ≡ Some op → P op) → (ns : List ℕ) → AllByRecursion P (ops_of g ns)
ops_all P g h [] = tt
ops_all P g h (n ∷ ns) = go (slice_get g.ops n) refl (ops_all P g h ns) where
  go : (found : Option Operator) → slice_get g.ops n ≡ found → AllByRecursion P (ops_of g ns) → AllByRecursion P (option_map_or (λ op. op ∷ ops_of g ns) found (ops_of g ns))
  go None e rest = rest
  go (Some op) e rest = (h n op e, rest)

ports_connected : (schemas : List Attributes) (ins : List (List ℕ)) (attributes : List Attributes) → PortsHave schemas ins attributes
    → list_all (λ streams. not (is_empty streams)) ins ≡ true
ports_connected schemas _ _ N.no_ports = refl
ports_connected schemas _ _ (N.one_port [] ports schema rest h hs) = absurd (let some = h.some in omega (arith, some))
ports_connected schemas _ _ (N.one_port (s ∷ streams) ports schema rest h hs) = ports_connected schemas ports rest hs

pub checked_connected : (c : CheckedGraph) → Keeps c → (n : ℕ) (op : Operator) → slice_get (graph_of c).ops n ≡ Some op → has_connections op ≡ true
checked_connected c keeps n op at =
    let is = operator_at c (graph_of c) refl n op at in
    let fit = keeps.operators n is.op is.part is.there is.has in
    ap has_connections is.same ∙ ports_connected c.schemas is.op.ins fit.ins fit.takes

one_at_least : (n : ℕ) (ms ks : List ℕ) → 1 ≤ how_often n ms → 1 ≤ how_often n (ms ++ ks)
one_at_least n [] ks h = absurd (omega arith)
one_at_least n (m ∷ ms) ks h = go (m == n) h (one_at_least n ms ks) where
  go : (b : Bool) → 1 ≤ cond b (suc (how_often n ms)) (how_often n ms) → (1 ≤ how_often n ms → 1 ≤ how_often n (ms ++ ks)) → 1 ≤ cond b (suc (how_often n (ms ++ ks))) (how_often n (ms ++ ks))
  go true h rest = omega arith
  go false h rest = rest h

one_behind : (n : ℕ) (ms ks : List ℕ) → 1 ≤ how_often n ks → 1 ≤ how_often n (ms ++ ks)
one_behind n [] ks h = h
one_behind n (m ∷ ms) ks h = go (m == n) (one_behind n ms ks h) where
  go : (b : Bool) → 1 ≤ how_often n (ms ++ ks) → 1 ≤ cond b (suc (how_often n (ms ++ ks))) (how_often n (ms ++ ks))
  go true h = omega arith
  go false h = h

in_plan : (n : ℕ) (plan : List Region) (i : ℕ) (region : Region) → slice_get plan i ≡ Some region → 1 ≤ how_often n region.ops → 1 ≤ how_often n (concat (map (λ (r : Region). r.ops) plan))
in_plan n [] i region at h = absurd (let no : None ≡ Some region = at in cc)
in_plan n (r ∷ plan) zero region at h =
    let same : r ≡ region = cc in
    one_at_least n r.ops (concat (map (λ (r : Region). r.ops) plan)) (subst (λ (q : Region). 1 ≤ how_often n q.ops) (sym same) h)
in_plan n (r ∷ plan) (suc i) region at h = one_behind n r.ops (concat (map (λ (r : Region). r.ops) plan)) (in_plan n plan i region at h)

passes : (test : ℕ → Bool) (n : ℕ) (ms : List ℕ) → 1 ≤ how_often n (filter test ms) → test n ≡ true
passes test n [] h = absurd (omega arith)
passes test n (m ∷ ms) h = go (test m) refl h (passes test n ms) where
  here : (d : Bool) → (m == n) ≡ d → test m ≡ true → 1 ≤ cond d (suc (how_often n (filter test ms))) (how_often n (filter test ms))
      → (1 ≤ how_often n (filter test ms) → test n ≡ true) → test n ≡ true
  here true d e h rest = subst (λ z. test z ≡ true) (eqb-true m n d) e
  here false d e h rest = rest h

  go : (b : Bool) → test m ≡ b → 1 ≤ how_often n (cond b (m ∷ filter test ms) (filter test ms)) → (1 ≤ how_often n (filter test ms) → test n ≡ true) → test n ≡ true
  go true e h rest = here (m == n) refl e h rest
  go false e h rest = rest h

-- a region of a plan has operators
pub region_some : (g : Graph) (plan : List Region) (i : ℕ) (region : Region) → IsPlan g plan → slice_get plan i ≡ Some region → is_empty region.ops ≡ false → is_empty (ops_of g region.ops) ≡ false
region_some g plan i region p at some = go region.ops refl some where
  there : (n : ℕ) → 1 ≤ how_often n region.ops → option_map_or is_eligible (slice_get g.ops n) false ≡ true
  there n h = passes (λ m. option_map_or is_eligible (slice_get g.ops m) false) n g.topo (subst (λ k. 1 ≤ k) (p.once n) (in_plan n plan i region at h))

  found : (o : Option Operator) (ns : List ℕ) → option_map_or is_eligible o false ≡ true → is_empty (option_map_or (λ op. op ∷ ops_of g ns) o (ops_of g ns)) ≡ false
  found None ns e = absurd (let no : false ≡ true = e in cc)
  found (Some op) ns e = refl

  first : (n : ℕ) (ns : List ℕ) → 1 ≤ how_often n (n ∷ ns)
  first n ns = let one : how_often n (n ∷ ns) ≡ suc (how_often n ns) = ap (λ b. cond b (suc (how_often n ns)) (how_often n ns)) (eq-eqb n n refl) in omega (arith, one)

  go : (ns : List ℕ) → region.ops ≡ ns → is_empty ns ≡ false → is_empty (ops_of g ns) ≡ false
  go [] e h = absurd (let no : true ≡ false = h in cc)
  go (n ∷ ns) e h = found (slice_get g.ops n) ns (there n (subst (λ ms. 1 ≤ how_often n ms) (sym e) (first n ns)))

pub region_law : RegionLaw
region_law c plan i region width items keeps is at positive =
    let g = graph_of c in
    let r = all_at (IsRegion g) plan i region is.regions at in
    ap (λ key. by_number (replicas (ops_of g region.ops) (routing_by key) (width_of region width) items)) r.key
    ∙ chain_law g (ops_of g region.ops) (width_of region width) items r.safe (ops_all (λ op. has_connections op ≡ true) g (checked_connected c keeps) region.ops)
    (region_some g plan i region is at r.some) positive
