-- A network with a region that has a key and merges by pulses runs its graph, and its region obeys the region law.
use Prim.Native.Nat.{zero, suc}
use Rattle.std.proofs.Common.{ℕ, ◌<◌, true, false, List, [], ◌∷◌, ◌≡◌, inl, inr, refl, sym, ◌∙◌, ap, arith, Some, slice_get}
use Rattle.spl_value.specs.declared.item.Item.{Item}
use Rattle.spl_value.specs.declared.packet.Packet.{Packet}
use Rattle.spl_value.specs.Numbered.{ByPulses, cut}
use Rattle.stream_model.specs.Operators.{Operator}
use Rattle.stream_model.specs.Meaning.{Lists, Entries, meaning}
use Rattle.stream_model.specs.Laws.{IsOrdered, IsNumbered, is_made}
use Rattle.stream_model.specs.Regions.{chain_key, routing_by}
use Rattle.stream_model.specs.Sending.{on_output, splits}
use Rattle.stream_model.proofs.OrderLaws.{IsOrdered-nil, IsOrdered-cons, at_only}
use Rattle.network_model.specs.Networks.{RegionPart, Splitter, inputs, outputs}
use Rattle.network_model.specs.Legal.{IsLegal}
use Rattle.network_model.specs.Wiring.{PartFits, RegionFits, LinkFits, Fed, Led, IsWired}
use Rattle.network_model.proofs.Packets.{front-same}
use Rattle.region_laws.specs.RegionFronts.{IsRegionOf}
use Rattle.region_laws.specs.examples.SomeReplicas.{filtered_sums}
use Rattle.region_laws.proofs.Splits.{split_law}
use Rattle.region_laws.proofs.RegionFronts.{region_front_law, region_whole_law}
use Rattle.network_laws.specs.RegionStreams.{RegionsHold}
use Rattle.network_laws.specs.RegionLaws.{HasRegionLaw, RegionsObey}
use Rattle.network_laws.specs.examples.KeyedNet.{keyed_source, keyed_filter, keyed_sums, keyed_sink, keyed_region, keyed_part, keyed_net}
use Rattle.network_laws.proofs.RegionNets.{first-port, region_wired}
use Rattle.network_laws.proofs.RegionSends.{holds_law}

-- ---- the graph

ordered : IsOrdered (keyed_source ∷ keyed_filter ∷ keyed_sums ∷ keyed_sink ∷ [])
ordered =
    IsOrdered-cons keyed_source (keyed_filter ∷ keyed_sums ∷ keyed_sink ∷ [])
    (at_only 0 (λ s. is_made (keyed_filter ∷ keyed_sums ∷ keyed_sink ∷ []) s ≡ false) refl) (λ s r. cc)
    (IsOrdered-cons keyed_filter (keyed_sums ∷ keyed_sink ∷ [])
    (at_only 1 (λ s. is_made (keyed_sums ∷ keyed_sink ∷ []) s ≡ false) refl) (at_only 0 (λ s. is_made (keyed_filter ∷ keyed_sums ∷ keyed_sink ∷ []) s ≡ false) refl)
    (IsOrdered-cons keyed_sums (keyed_sink ∷ [])
    (λ s m. refl) (at_only 1 (λ s. is_made (keyed_sums ∷ keyed_sink ∷ []) s ≡ false) refl)
    (IsOrdered-cons keyed_sink [] (λ s m. cc) (λ s r. refl) IsOrdered-nil)))

numbered : IsNumbered filtered_sums
numbered zero op e = let same : keyed_source ≡ op = cc in ap (λ (o : Operator). o.number) (sym same)
numbered (suc zero) op e = let same : keyed_filter ≡ op = cc in ap (λ (o : Operator). o.number) (sym same)
numbered (suc (suc zero)) op e = let same : keyed_sums ≡ op = cc in ap (λ (o : Operator). o.number) (sym same)
numbered (suc (suc (suc zero))) op e = let same : keyed_sink ≡ op = cc in ap (λ (o : Operator). o.number) (sym same)
numbered (suc (suc (suc (suc n)))) op e = absurd cc

-- ---- the network

fits : RegionFits filtered_sums keyed_region
fits = record {
  op = keyed_filter;
  ops = keyed_sums ∷ [];
  are = refl;
  stands = record { before = keyed_source ∷ []; behind = keyed_sums ∷ keyed_sink ∷ []; are = refl };
  no_source = refl;
  reads = refl;
  path = (1, refl, refl, record { before = keyed_source ∷ keyed_filter ∷ []; behind = keyed_sink ∷ []; are = refl }, refl, tt);
  makes = refl;
  some = omega arith;
}

parts : (e : ℕ) → e < 6 → PartFits filtered_sums (keyed_part e)
parts zero lt = record {
  stands = record { before = []; behind = keyed_filter ∷ keyed_sums ∷ keyed_sink ∷ []; are = refl };
  reads = refl;
  stream = 0;
  one_stream = refl;
  path = tt;
  fit = λ o p at. let first : p ≡ 0 = first-port o p at in omega (arith, first);
}
parts (suc zero) lt = fits
parts (suc (suc zero)) lt = (fits, omega arith)
parts (suc (suc (suc zero))) lt = (fits, omega arith)
parts (suc (suc (suc (suc zero)))) lt = (fits, first-port)
parts (suc (suc (suc (suc (suc n))))) lt = record {
  stands = record { before = keyed_source ∷ keyed_filter ∷ keyed_sums ∷ []; behind = []; are = refl };
  no_source = refl;
  reads = omega arith;
  path = tt;
  fit = λ o p at. absurd (none o p at);
}
  where
    none : (o p : ℕ) → slice_get {X = ℕ} [] o ≡ Some p → ⊥
    none o p at = absurd (cc)

links : (l : ℕ) → l < 6 → LinkFits keyed_net l
links zero lt = record { ends = inl (record { stream = 0; carried = (0, refl, refl); connected = (refl, refl) }); earlier = omega arith; within = omega arith }
links (suc zero) lt = record { ends = inr (inl (record { region = keyed_region; from = refl; within = omega arith; to = refl; input = refl })); earlier = omega arith; within = omega arith }
links (suc (suc zero)) lt = record { ends = inr (inl (record { region = keyed_region; from = refl; within = omega arith; to = refl; input = refl })); earlier = omega arith; within = omega arith }
links (suc (suc (suc zero))) lt = record { ends = inr (inr (record { region = keyed_region; outs = 0 ∷ []; from = refl; within = omega arith; output = refl; to = refl })); earlier = omega arith; within = omega arith }
links (suc (suc (suc (suc zero)))) lt = record { ends = inr (inr (record { region = keyed_region; outs = 0 ∷ []; from = refl; within = omega arith; output = refl; to = refl })); earlier = omega arith; within = omega arith }
links (suc (suc (suc (suc (suc n))))) lt = record { ends = inl (record { stream = 2; carried = (refl, refl); connected = refl }); earlier = omega arith; within = omega arith }

led : (e o : ℕ) → e < 6 → o < outputs (keyed_part e) → Led keyed_net e o
led zero o lt within = record { link = 0; within = omega arith; from = refl; output = omega (arith, within) }
led (suc zero) zero lt within = record { link = 1; within = omega arith; from = refl; output = refl }
led (suc zero) (suc o) lt within = record { link = 2; within = omega arith; from = refl; output = omega (arith, within) }
led (suc (suc zero)) o lt within = record { link = 3; within = omega arith; from = refl; output = omega (arith, within) }
led (suc (suc (suc zero))) o lt within = record { link = 4; within = omega arith; from = refl; output = omega (arith, within) }
led (suc (suc (suc (suc zero)))) o lt within = record { link = 5; within = omega arith; from = refl; output = omega (arith, within) }
led (suc (suc (suc (suc (suc n))))) o lt within = absurd (omega (arith, within))

fed : (e i : ℕ) → e < 6 → i < inputs (keyed_part e) → Fed keyed_net e i
fed zero i lt within = absurd (omega (arith, within))
fed (suc zero) i lt within = record { link = 0; within = omega arith; to = refl; input = omega (arith, within) }
fed (suc (suc zero)) i lt within = record { link = 1; within = omega arith; to = refl; input = omega (arith, within) }
fed (suc (suc (suc zero))) i lt within = record { link = 2; within = omega arith; to = refl; input = omega (arith, within) }
fed (suc (suc (suc (suc zero)))) zero lt within = record { link = 3; within = omega arith; to = refl; input = refl }
fed (suc (suc (suc (suc zero)))) (suc i) lt within = record { link = 4; within = omega arith; to = refl; input = omega (arith, within) }
fed (suc (suc (suc (suc (suc zero))))) i lt within = record { link = 5; within = omega arith; to = refl; input = omega (arith, within) }
fed (suc (suc (suc (suc (suc (suc n)))))) i lt within = absurd (omega (arith, lt))

at_one : (e : ℕ) (region : RegionPart) → keyed_part e ≡ Splitter region → e ≡ 1
at_one zero region p = absurd (cc)
at_one (suc zero) region p = refl
at_one (suc (suc zero)) region p = absurd (cc)
at_one (suc (suc (suc zero))) region p = absurd (cc)
at_one (suc (suc (suc (suc zero)))) region p = absurd (cc)
at_one (suc (suc (suc (suc (suc n))))) region p = absurd (cc)

pub keyed_wired : IsWired filtered_sums keyed_net
keyed_wired = record {
  ordered = ordered;
  numbered = numbered;
  parts = parts;
  links = links;
  led = led;
  fed = fed;
  one = region_wired.one;
  one_splitter = λ e d region a b p q. at_one e region p ∙ sym (at_one d region q);
}

-- ---- its region

abbrev sent : List Item → ℕ → List Packet
sent items c = on_output c (splits (routing_by (chain_key (keyed_filter ∷ keyed_sums ∷ []))) 2 true 0 items)

is_region : (items : List Item) → IsRegionOf filtered_sums (keyed_filter ∷ keyed_sums ∷ []) ByPulses 2 (cut items) (sent items)
is_region items = record {
  safe = refl;
  connected = (refl, (refl, tt));
  some = refl;
  wide = omega arith;
  sends = λ c l. (split_law (routing_by (chain_key (keyed_filter ∷ keyed_sums ∷ []))) 2 true items c l).0;
  suits = tt;
}

keyed_law : (items : List Item) → HasRegionLaw keyed_region items
keyed_law items = record {
  fronts = λ went front. region_front_law filtered_sums (keyed_filter ∷ keyed_sums ∷ []) ByPulses 2 (cut items) (sent items) (sent items) went (is_region items)
      (λ c l. front-same (sent items c) (sent items c) refl) front;
  whole = λ closes. region_whole_law filtered_sums (keyed_filter ∷ keyed_sums ∷ []) 2 (cut items) (sent items) (is_region items)
      (λ c l. (split_law (routing_by (chain_key (keyed_filter ∷ keyed_sums ∷ []))) 2 true items c l).2 closes);
}

pub keyed_obeys : RegionsObey keyed_net
keyed_obeys zero lt = tt
keyed_obeys (suc zero) lt = tt
keyed_obeys (suc (suc zero)) lt = tt
keyed_obeys (suc (suc (suc zero))) lt = tt
keyed_obeys (suc (suc (suc (suc zero)))) lt = keyed_law
keyed_obeys (suc (suc (suc (suc (suc n))))) lt = tt

pub keyed_holds : (rows : Lists) (entries : Entries) → RegionsHold keyed_net (meaning filtered_sums rows entries)
keyed_holds rows entries zero lt = tt
keyed_holds rows entries (suc zero) lt = tt
keyed_holds rows entries (suc (suc zero)) lt = tt
keyed_holds rows entries (suc (suc (suc zero))) lt = tt
keyed_holds rows entries (suc (suc (suc (suc zero)))) lt =
    holds_law filtered_sums rows entries keyed_region ordered fits (keyed_law ((meaning filtered_sums rows entries).streams 0))
keyed_holds rows entries (suc (suc (suc (suc (suc n))))) lt = tt

pub keyed_legal : IsLegal keyed_net []
keyed_legal = record { legal = tt; short = omega arith }
