-- The counts of a run are those of the links of its network.
use Rattle.std.proofs.Common.{ℕ, zero, suc, ◌+◌, ◌<◌, ◌-◌, ◌^◌, Bool, true, false, cond, List, [], ◌∷◌, ◌++◌, ◌≡◌, refl, sym, ap, subst, ◌∙◌, arith, length, min, Some, slice_get}
use Rattle.std.proofs.lemmas.Bool.{lt-ltb}
use Rattle.std.proofs.lemmas.List.{length-map}
use Rattle.spl_value.specs.declared.item.Item.{Item}
use Rattle.spl_value.specs.Numbered.{items_of, stops_once}
use Rattle.spl_value.specs.Route.{part}
use Rattle.spl_value.proofs.Lists.{append_front}
use Rattle.language_model.specs.CheckedGraph.{CheckedGraph}
use Rattle.stream_model.specs.declared.plan.Region.{Region}
use Rattle.stream_model.specs.declared.record.ChannelCount.{ChannelCount}
use Rattle.stream_model.specs.CheckedMeaning.{graph_of}
use Rattle.stream_model.specs.Meaning.{Graph, Lists, Entries, Meaning, meaning}
use Rattle.stream_model.specs.Regions.{has_pulses, width_of}
use Rattle.stream_model.specs.Runs.{counts_of}
use Rattle.stream_model.specs.Sending.{on_output}
use Rattle.stream_model.specs.Stream.{is_closed}
use Rattle.network_model.specs.Packets.{has_last, items_in, packets_of}
use Rattle.network_model.specs.Networks.{RegionPart, Splitter, inputs, outputs, Net}
use Rattle.network_model.specs.Owed.{region_splits}
use Rattle.network_model.specs.Joined.{NetworkLists, Settled, sent_on}
use Rattle.network_model.specs.Wiring.{Fed}
use Rattle.network_model.specs.Flow.{flow, flows, IsUnder}
use Rattle.region_laws.proofs.Splits.{split_law}
use Rattle.pe_fusion.specs.Counts.{channel_count, channel_counts, planned_counts, region_counts}
use Rattle.pe_fusion.specs.FusedNets.{region_part}
use Rattle.pe_fusion.specs.Pieces.{is_replicated, replicated}
use Rattle.pe_fusion.proofs.Totals.{get-right}
use Rattle.network_laws.specs.PlannedLaws.{RunsPlan}
use Rattle.network_laws.specs.CountLaws.{ChannelCounts, IsCounted, PlainCounts}
use Rattle.network_laws.proofs.Flowing.{flow-ends}
use Rattle.network_laws.proofs.Joining.{flow_law, meet_law, splitter-at, wired-flowing, wired-net}
use Rattle.network_laws.proofs.Planned.{region-of, runs_hold, runs_settled}
use Rattle.network_laws.proofs.RegionSends.{closed-cut}
use Rattle.network_laws.proofs.Schemas.{behind-splitter, from-below}
use Rattle.network_laws.proofs.Wholeness.{closed-packets}

-- ---- where no region runs in replicas

none-counted : (g : Graph) (width i : ℕ) (m : Meaning) (plan : List Region) → replicated width plan ≡ [] → region_counts g width m i plan ≡ []
none-counted g width i m [] none = refl
none-counted g width i m (r ∷ plan) none = go (is_replicated width r) none (none-counted g width (suc i) m plan)
  where
    counts : List ChannelCount
    counts = channel_counts (region_part g width r) (m.streams (region_part g width r).entry) i 0 (width_of r width)

    go : (b : Bool) → cond b (r ∷ replicated width plan) (replicated width plan) ≡ [] → (replicated width plan ≡ [] → region_counts g width m (suc i) plan ≡ [])
        → cond b (channel_counts (region_part g width r) (m.streams (region_part g width r).entry) i 0 (width_of r width)) [] ++ region_counts g width m (suc i) plan ≡ []
    go true e rest = absurd (cc)
    go false e rest = rest e

pub plain_counts : PlainCounts
plain_counts g plan width m none = ap (λ (channels : List ChannelCount). record { channels = channels; sinks = (counts_of g m).sinks }) (none-counted g width 0 m plan none)

-- ---- the count of a channel is there

channel-there : (region : RegionPart) (items : List Item) (place c n k : ℕ) → k < n → slice_get (channel_counts region items place c n) k ≡ Some (channel_count region items place (c + k))
channel-there region items place c zero k lt = absurd (omega (arith, lt))
channel-there region items place c (suc n) zero lt = ap (λ d. Some (channel_count region items place d)) (let e : c ≡ c + 0 = omega arith in e)
channel-there region items place c (suc n) (suc k) lt =
    channel-there region items place (suc c) n k (omega (arith, lt)) ∙ ap (λ d. Some (channel_count region items place d)) (let e : suc c + k ≡ c + suc k = omega arith in e)

abbrev CountAt : Graph → ℕ → Meaning → ℕ → List Region → ChannelCount → Type 0
CountAt g width m i plan count = (k : ℕ) × (slice_get (region_counts g width m i plan) k ≡ Some count)

count-there : (g : Graph) (width i : ℕ) (m : Meaning) (plan : List Region) (at c : ℕ) (r : Region) → slice_get plan at ≡ Some r → 1 < width_of r width → c < width_of r width
    → CountAt g width m i plan (channel_count (region_part g width r) (m.streams (region_part g width r).entry) (i + at) c)
count-there g width i m [] at c r is wide lt = absurd (cc)
count-there g width i m (s ∷ plan) zero c r is wide lt =
    let same : s ≡ r = cc in
    subst (λ z. CountAt g width m i (z ∷ plan) (channel_count (region_part g width r) (m.streams (region_part g width r).entry) (i + 0) c)) (sym same) (
      c,
      ap (λ b. slice_get (cond b (channel_counts (region_part g width r) (m.streams (region_part g width r).entry) i 0 (width_of r width)) [] ++ region_counts g width m (suc i) plan) c)
          (lt-ltb 1 (width_of r width) wide)
          ∙ append_front (channel_counts (region_part g width r) (m.streams (region_part g width r).entry) i 0 (width_of r width)) (region_counts g width m (suc i) plan) c
          (channel_count (region_part g width r) (m.streams (region_part g width r).entry) i (0 + c))
          (channel-there (region_part g width r) (m.streams (region_part g width r).entry) i 0 (width_of r width) c lt)
          ∙ ap (λ d. Some (channel_count (region_part g width r) (m.streams (region_part g width r).entry) i d)) (let e : 0 + c ≡ c = omega arith in e)
          ∙ ap (λ p. Some (channel_count (region_part g width r) (m.streams (region_part g width r).entry) p c)) (let e : i ≡ i + 0 = omega arith in e),
    )
count-there g width i m (s ∷ plan) (suc at) c r is wide lt =
    let rest = count-there g width (suc i) m plan at c r is wide lt in
    let front : List ChannelCount = cond (is_replicated width s) (channel_counts (region_part g width s) (m.streams (region_part g width s).entry) i 0 (width_of s width)) [] in (
      length front + rest.0,
      get-right front (region_counts g width m (suc i) plan) rest.0 ∙ rest.1
          ∙ ap (λ p. Some (channel_count (region_part g width r) (m.streams (region_part g width r).entry) p c)) (let e : suc i + at ≡ i + suc at = omega arith in e),
    )

-- ---- settled lists

module _ (c : CheckedGraph) (plan : List Region) (width : ℕ) (net : Net) (runs : RunsPlan c plan width net)
    (lists : NetworkLists) (rows : Lists) (entries : Entries) (settled : Settled net lists) (under : IsUnder net lists rows entries) where
  -- the stream that enters a region has come to its end
  entry-closed : (e : ℕ) (region : RegionPart) → e < net.size → net.part e ≡ Splitter region → is_closed ((meaning (graph_of c) rows entries).streams region.entry) ≡ true
  entry-closed e region size is = go (runs.wired.fed e 0 size (subst (λ z. 0 < inputs z) (sym is) (omega arith)))
    where
      go : Fed net e 0 → is_closed ((meaning (graph_of c) rows entries).streams region.entry) ≡ true
      go fed =
          let holds = runs_hold c plan width net rows entries runs in
          let x = splitter-at net fed.link region (runs.wired.links fed.link fed.within) (ap net.part fed.to ∙ is) in
          let stream : List Item = (meaning (graph_of c) rows entries).streams (x.0).stream in
          let carries : flow net rows (meaning (graph_of c) rows entries) fed.link ≡ packets_of ((meaning (graph_of c) rows entries).streams (x.0).stream) =
          flow_law (graph_of c) net rows entries runs.wired (meet_law (graph_of c) net lists rows entries runs.wired holds settled under) fed.link (x.0).stream fed.within (x.0).carried in
          let ends = flow-ends net (meaning (graph_of c) rows entries) rows entries lists (wired-flowing (graph_of c) rows entries runs.wired.ordered runs.wired.numbered net lists runs.wired holds under) settled under fed.link fed.within in
          ap (λ z. is_closed ((meaning (graph_of c) rows entries).streams z)) x.1
          ∙ closed-packets stream (ap stops_once (sym carries) ∙ ends.0) (ap has_last (sym carries) ∙ ends.1)

  -- so its items went to the channels by their routes
  sent-part : (l : ℕ) (region : RegionPart) → l < net.links → net.part (net.link l).from ≡ Splitter region
      → items_of (sent_on net lists l) ≡ part region.routing region.width ((meaning (graph_of c) rows entries).streams region.entry) (net.link l).output
  sent-part l region lt is =
      let items : List Item = (meaning (graph_of c) rows entries).streams region.entry in
      let within : (net.link l).output < region.width = subst (λ z. (net.link l).output < outputs z) is ((wired-net (graph_of c) net runs.wired).output l lt) in
      let carries : flow net rows (meaning (graph_of c) rows entries) l ≡ on_output (net.link l).output (region_splits region 0 ((meaning (graph_of c) rows entries).streams region.entry)) =
      ap (λ z. on_output (net.link l).output (flows rows (meaning (graph_of c) rows entries) z)) is in
      let closed = closed-cut items (entry-closed (net.link l).from region (from-below c plan width net runs l lt) is) in
      ap items_of ((runs_settled c plan width net lists rows entries runs settled under l lt).0 ∙ carries)
      ∙ (split_law region.routing region.width (has_pulses region.rule) items (net.link l).output within).0.own
      ∙ ap (λ z. part region.routing region.width z (net.link l).output) closed.0

  counted : (l : ℕ) (region : RegionPart) → l < net.links → net.part (net.link l).from ≡ Splitter region → 1 < region.width
      → IsCounted c plan width net lists (planned_counts (graph_of c) plan width (meaning (graph_of c) rows entries)).channels region l
  counted l region lt is wide =
      let size : (net.link l).from < net.size = from-below c plan width net runs l lt in
      let merger = behind-splitter c plan width net runs (net.link l).from region size is in
      let r = region-of c plan width net runs merger.0 region merger.1 merger.2 merger.3 in
      let within : (net.link l).output < region.width = subst (λ z. (net.link l).output < outputs z) is ((wired-net (graph_of c) net runs.wired).output l lt) in
      let k = count-there (graph_of c) width 0 (meaning (graph_of c) rows entries) plan r.0 (net.link l).output r.1 r.2
      (subst (λ (z : RegionPart). 1 < z.width) r.3 wide) (subst (λ (z : RegionPart). (net.link l).output < z.width) r.3 within) in
      let number : length (part region.routing region.width ((meaning (graph_of c) rows entries).streams region.entry) (net.link l).output) ≡ length (items_in (sent_on net lists l)) =
      ap length (sym (sent-part l region lt is)) ∙ sym (length-map (items_of (sent_on net lists l)) (λ p. p.1)) in
      record {
        place = r.0;
        region = r.1;
        at = r.2;
        runs = r.3;
        entry = k.0;
        count = k.1
            ∙ ap (λ (z : RegionPart). Some (channel_count z ((meaning (graph_of c) rows entries).streams z.entry) (0 + r.0) (net.link l).output)) (sym r.3)
            ∙ ap (λ n. Some (channel_count region ((meaning (graph_of c) rows entries).streams region.entry) n (net.link l).output)) (let e : 0 + r.0 ≡ r.0 = omega arith in e)
            ∙ ap (λ (n : ℕ). Some (record { region = r.0; channel = (net.link l).output; events = min n (2 ^ 64 - 1) })) number;
      }

pub channel_counts_law : ChannelCounts
channel_counts_law c plan width net lists rows entries runs settled under l part lt is wide = counted c plan width net runs lists rows entries settled under l part lt is wide
