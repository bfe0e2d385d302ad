-- Networks that run a graph: their links carry its streams.
use Rattle.std.proofs.Common.{ℕ, zero, suc, ◌<◌, nat_lt, true, List, [], ◌∷◌, ◌≡◌, ◌⊎◌, refl, sym, ap, ◌∙◌, length, map, arith, subst, Some, inl, inr, slice_get}
use Rattle.std.proofs.lemmas.Bool.{cond-true, lt-ltb}
use Rattle.std.proofs.Math.Path.{fun_ext}
use Rattle.std.proofs.lemmas.Option.{slice_get_within}
use Rattle.list_engine.proofs.Ports.{input_count}
use Rattle.spl_value.specs.declared.item.Item.{Item}
use Rattle.spl_value.specs.declared.packet.Packet.{Packet}
use Rattle.spl_value.specs.Numbered.{merged, stops_once, InOrder}
use Rattle.stream_model.specs.Stream.{Event, is_closed, IsPrefix}
use Rattle.stream_model.specs.Operators.{connections, ports}
use Rattle.stream_model.specs.Bodies.{output}
use Rattle.stream_model.specs.Stages.{start, gives_all, out}
use Rattle.stream_model.specs.Meaning.{Graph, Lists, Entries, lists_at, meaning, in_topo}
use Rattle.stream_model.specs.Laws.{IsOrdered, IsNumbered}
use Rattle.stream_model.proofs.Graphs.{topo_events_law}
use Rattle.stream_model.specs.Sending.{on_output, outgoing}
use Rattle.network_model.specs.Packets.{items_in, has_last, without_cut, packets_of}
use Rattle.network_model.specs.Networks.{RegionPart, Part, FromSource, FromLinks, Splitter, Replica, Merger, inputs, outputs, Net}
use Rattle.network_model.specs.Receipts.{Taken}
use Rattle.stream_model.specs.Chains.{passed}
use Rattle.network_model.specs.Owed.{owed, send_all, region_splits, replica_owes, Binds}
use Rattle.network_model.specs.Joined.{NetworkLists, Settled, InProgress}
use Rattle.network_model.specs.Wiring.{IsWired, Fed, LinkFits, StreamLink, ReplicaLink, MergerLink, PartFits, Carries, Connects}
use Rattle.network_model.specs.Flow.{flows, flow, expects, channel_flow, IsUnder, IsUnderAt}
use Rattle.network_model.proofs.Parts.{is-part}
use Rattle.network_laws.specs.Shaped.{IsNet}
use Rattle.network_laws.specs.Flowing.{full, IsFlowing}
use Rattle.network_laws.specs.RegionStreams.{RegionHolds, RegionsHold, RegionMeets, RegionsMeet}
use Rattle.network_laws.specs.JoinedLaws.{JoinedLaw, SettledLaw, MeetLaw, FlowLaw}
use Rattle.network_model.proofs.Packets.{front-left, front-same, front-trans, front-items, front-without_cut, front-packets_of, items_in-without_cut, items_in-packets_of}
use Rattle.network_model.proofs.Sending.{on_output-send_all}
use Rattle.network_model.proofs.Chains.{on_port-outputs}
use Rattle.network_model.proofs.RegionParts.{split-stops, split-without_cut, channel-clean, channel-stops, on_output-map}
use Rattle.network_laws.proofs.Meanings.{source-gives, operator-gives, passed-gives, full-events}
use Rattle.network_laws.proofs.Flowing.{joined_are_in_progress, flow-front, flow-all, flow-ends}
use Rattle.network_laws.proofs.Wholeness.{closed-packets}

-- ---- ends of links

carried-output : (part : Part) (o s : ℕ) → Carries part o s → o < outputs part
carried-output (FromSource source ops outs) o s c = slice_get_within outs o c.0 c.1
carried-output (FromLinks op ops outs) o s c = slice_get_within outs o c.0 c.1
carried-output (Splitter region) o s c = absurd c
carried-output (Replica region channel) o s c = absurd c
carried-output (Merger region outs) o s c = slice_get_within outs o 0 c.0

connected-input : (part : Part) (i s : ℕ) → Connects part i s → i < inputs part
connected-input (FromSource source ops outs) i s c = absurd c
connected-input (FromLinks op ops outs) i s c =
    let within : i < length (connections op) = slice_get_within (connections op) i s c in
    let same : length (ports op) ≡ length (connections op) = input_count op in
    omega (arith, within, same)
connected-input (Splitter region) i s c = let first : i ≡ 0 = c.0 in omega (arith, first)
connected-input (Replica region channel) i s c = absurd c
connected-input (Merger region outs) i s c = absurd c

lists_at-connection : (streams : Lists) (conns : List ℕ) (i s : ℕ) → slice_get conns i ≡ Some s → lists_at streams conns i ≡ streams s
lists_at-connection streams [] i s e = absurd (cc)
lists_at-connection streams (t ∷ conns) zero s e = let same : t ≡ s = cc in ap streams same
lists_at-connection streams (t ∷ conns) (suc i) s e = lists_at-connection streams conns i s e

output-within : (net : Net) (l : ℕ) → LinkFits net l → (net.link l).output < outputs (net.part (net.link l).from)
output-within net l k = go k.ends
  where
    go : StreamLink net l ⊎ (ReplicaLink net l ⊎ MergerLink net l) → (net.link l).output < outputs (net.part (net.link l).from)
    go (inl s) = carried-output (net.part (net.link l).from) (net.link l).output s.stream s.carried
    go (inr (inl r)) = subst (λ z. (net.link l).output < outputs z) (sym r.from) r.within
    go (inr (inr r)) = subst (λ z. (net.link l).output < outputs z) (sym r.from) (let first : (net.link l).output ≡ 0 = r.output in omega (arith, first))

input-within : (net : Net) (l : ℕ) → LinkFits net l → (net.link l).input < inputs (net.part (net.link l).to)
input-within net l k = go k.ends
  where
    go : StreamLink net l ⊎ (ReplicaLink net l ⊎ MergerLink net l) → (net.link l).input < inputs (net.part (net.link l).to)
    go (inl s) = connected-input (net.part (net.link l).to) (net.link l).input s.stream s.connected
    go (inr (inl r)) = subst (λ z. (net.link l).input < inputs z) (sym r.to) (let first : (net.link l).input ≡ 0 = r.input in omega (arith, first))
    go (inr (inr r)) = subst (λ z. (net.link l).input < inputs z) (sym r.to) r.within

pub wired-net : (g : Graph) (net : Net) → IsWired g net → IsNet net
wired-net g net wired = record {
  parts = λ e lt. is-part g (net.part e) (wired.parts e lt);
  earlier = λ l lt. (wired.links l lt).earlier;
  within = λ l lt. (wired.links l lt).within;
  output = λ l lt. output-within net l (wired.links l lt);
  input = λ l lt. input-within net l (wired.links l lt);
  one = wired.one;
}

-- ---- flows

module _ (g : Graph) (rows : Lists) (entries : Entries) (ordered : IsOrdered (in_topo g)) (numbered : IsNumbered g) where
  -- the flow of an output is the stream that it carries
  pub flow-at : (part : Part) (o s : ℕ) → PartFits g part → RegionMeets (meaning g rows entries) part → Carries part o s
      → on_output o (flows rows (meaning g rows entries) part) ≡ packets_of ((meaning g rows entries).streams s)
  flow-at (FromSource source ops outs) o s fits holds c =
      on_output-send_all outs o c.0 (passed (map start ops) (map (output 0) (rows source.number))) c.1
      ∙ ap packets_of (passed-gives g rows entries ordered source ops (map (output 0) (rows source.number)) fits.path
      (source-gives g rows entries ordered source fits.stream fits.stands fits.reads fits.one_stream) c.0 s c.2)
  flow-at (FromLinks op ops outs) o s fits holds c =
      let events : List Event = (meaning g rows entries).events op.number in
      on_output-send_all outs o c.0 (passed (map start ops) (gives_all (start op) events)) c.1
      ∙ ap packets_of (passed-gives g rows entries ordered op ops (gives_all (start op) events) fits.path
      (operator-gives g rows entries ordered op events fits.stands fits.no_source
      (λ p. ap (out op p) (topo_events_law g rows entries fits.stands.before fits.stands.behind op numbered fits.stands.are))) c.0 s c.2)
  flow-at (Splitter region) o s fits holds c = absurd c
  flow-at (Replica region channel) o s fits holds c = absurd c
  flow-at (Merger region outs) o s fits holds c =
      on_output-send_all outs o 0 (map (output 0) (merged region.rule region.width (channel_flow region (meaning g rows entries)))) c.0
      ∙ ap packets_of (on_port-outputs 0 (merged region.rule region.width (channel_flow region (meaning g rows entries))) ∙ holds
      ∙ ap (meaning g rows entries).streams c.1)

  -- what is owed at an input is the stream that is connected there
  expects-at : (part : Part) (i s : ℕ) → Connects part i s → expects (meaning g rows entries) part i ≡ packets_of ((meaning g rows entries).streams s)
  expects-at (FromSource source ops outs) i s c = absurd c
  expects-at (FromLinks op ops outs) i s c = ap packets_of (lists_at-connection (meaning g rows entries).streams (connections op) i s c)
  expects-at (Splitter region) i s c = ap (expects (meaning g rows entries) (Splitter region)) c.0 ∙ ap (λ z. packets_of ((meaning g rows entries).streams z)) c.1
  expects-at (Replica region channel) i s c = absurd c
  expects-at (Merger region outs) i s c = absurd c

  binds-full : (part : Part) (t u : Taken) → PartFits g part → RegionHolds (meaning g rows entries) part → IsUnderAt part u rows entries
      → Binds part (full (meaning g rows entries) rows entries part t)
  binds-full (FromSource source ops outs) t u fits holds under = under.1
  binds-full (FromLinks op ops outs) t u fits holds under = tt
  binds-full (Splitter region) t u fits holds under = tt
  binds-full (Replica region channel) t u fits holds under =
      ap stops_once (split-without_cut region channel 0 ((meaning g rows entries).streams region.entry)) ∙ split-stops region channel 0 ((meaning g rows entries).streams region.entry)
  binds-full (Merger region outs) t u fits holds under =
      let same : (λ c. without_cut (channel_flow region (meaning g rows entries) c)) ≡ channel_flow region (meaning g rows entries) = fun_ext (λ c. channel-clean region (meaning g rows entries) c) in (
        subst (InOrder region.rule region.width) (sym same) holds.in_order,
        λ c lt. ap stops_once (channel-clean region (meaning g rows entries) c) ∙ channel-stops region (meaning g rows entries) c,
      )

  owes-full : (part : Part) (t : Taken) → PartFits g part → owed part (full (meaning g rows entries) rows entries part t) ≡ flows rows (meaning g rows entries) part
  owes-full (FromSource source ops outs) t fits = refl
  owes-full (FromLinks op ops outs) t fits =
      ap (λ events. send_all outs (passed (map start ops) (gives_all (start op) events)))
      (full-events (meaning g rows entries).streams (connections op) (entries op.number)
      ∙ sym (topo_events_law g rows entries fits.stands.before fits.stands.behind op numbered fits.stands.are))
  owes-full (Splitter region) t fits = ap (region_splits region 0) (items_in-packets_of ((meaning g rows entries).streams region.entry))
  owes-full (Replica region channel) t fits = refl
  owes-full (Merger region outs) t fits = refl

  -- and always a front of it
  front-at : (part : Part) (o s : ℕ) → PartFits g part → RegionHolds (meaning g rows entries) part → Carries part o s
      → IsPrefix (on_output o (flows rows (meaning g rows entries) part)) (packets_of ((meaning g rows entries).streams s))
  front-at (FromSource source ops outs) o s fits holds c =
      front-same (on_output o (flows rows (meaning g rows entries) (FromSource source ops outs))) (packets_of ((meaning g rows entries).streams s)) (flow-at (FromSource source ops outs) o s fits tt c)
  front-at (FromLinks op ops outs) o s fits holds c =
      front-same (on_output o (flows rows (meaning g rows entries) (FromLinks op ops outs))) (packets_of ((meaning g rows entries).streams s)) (flow-at (FromLinks op ops outs) o s fits tt c)
  front-at (Splitter region) o s fits holds c = absurd c
  front-at (Replica region channel) o s fits holds c = absurd c
  front-at (Merger region outs) o s fits holds c =
      let items : List Item = merged region.rule region.width (channel_flow region (meaning g rows entries)) in
      front-left (on_output o (flows rows (meaning g rows entries) (Merger region outs))) (packets_of items) (packets_of ((meaning g rows entries).streams s)) (packets_of ((meaning g rows entries).streams region.exit))
      (on_output-send_all outs o 0 (map (output 0) items) c.0 ∙ ap packets_of (on_port-outputs 0 items)) (ap (λ z. packets_of ((meaning g rows entries).streams z)) (sym c.1))
      (front-packets_of items ((meaning g rows entries).streams region.exit) holds.front)

  pub from-within : (net : Net) → IsWired g net → (l : ℕ) → l < net.links → (net.link l).from < net.size
  from-within net wired l lt =
      let k = wired.links l lt in let low : (net.link l).from < (net.link l).to = k.earlier in let top : (net.link l).to < net.size = k.within in omega (arith, low, top)

  -- a link that is no stream carries what is owed at its end
  channel-meets : (net : Net) (l : ℕ) → ReplicaLink net l ⊎ MergerLink net l → flow net rows (meaning g rows entries) l ≡ expects (meaning g rows entries) (net.part (net.link l).to) (net.link l).input
  channel-meets net l (inl r) =
      let m = meaning g rows entries in
      ap (λ z. on_output (net.link l).output (flows rows m z)) r.from
      ∙ ap (expects m (Replica r.region (net.link l).output)) (sym r.input)
      ∙ ap (λ z. expects m z (net.link l).input) (sym r.to)
  channel-meets net l (inr r) =
      let m = meaning g rows entries in
      ap (λ z. on_output (net.link l).output (flows rows m z)) r.from
      ∙ ap (λ o. on_output o (map (outgoing 0) (replica_owes r.region (m.streams r.region.entry) (net.link l).input))) r.output
      ∙ on_output-map 0 (replica_owes r.region (m.streams r.region.entry) (net.link l).input)
      ∙ sym (cond-true (nat_lt (net.link l).input r.region.width) (replica_owes r.region (m.streams r.region.entry) (net.link l).input) [] (lt-ltb (net.link l).input r.region.width r.within))
      ∙ ap (λ z. expects m z (net.link l).input) (sym r.to)

  meets-at : (net : Net) → IsWired g net → RegionsHold net (meaning g rows entries) → (l : ℕ) → l < net.links
      → IsPrefix (without_cut (flow net rows (meaning g rows entries) l)) (without_cut (expects (meaning g rows entries) (net.part (net.link l).to) (net.link l).input))
  meets-at net wired holds l lt = go (wired.links l lt).ends
    where
      here : List Packet
      here = expects (meaning g rows entries) (net.part (net.link l).to) (net.link l).input

      go : StreamLink net l ⊎ (ReplicaLink net l ⊎ MergerLink net l) → IsPrefix (without_cut (flow net rows (meaning g rows entries) l)) (without_cut here)
      go (inl s) =
          front-without_cut (flow net rows (meaning g rows entries) l) here
          (front-left (flow net rows (meaning g rows entries) l) (flow net rows (meaning g rows entries) l) here (packets_of ((meaning g rows entries).streams s.stream)) refl
          (expects-at (net.part (net.link l).to) (net.link l).input s.stream s.connected)
          (front-at (net.part (net.link l).from) (net.link l).output s.stream (wired.parts (net.link l).from (from-within net wired l lt)) (holds (net.link l).from (from-within net wired l lt)) s.carried))
      go (inr r) = front-same (without_cut (flow net rows (meaning g rows entries) l)) (without_cut here) (ap without_cut (channel-meets net l r))

  -- where regions meet their streams, every link carries what is owed at its end
  pub all-meet : (net : Net) → IsWired g net → RegionsMeet net (meaning g rows entries) → (l : ℕ) → l < net.links
      → flow net rows (meaning g rows entries) l ≡ expects (meaning g rows entries) (net.part (net.link l).to) (net.link l).input
  all-meet net wired meet l lt = go (wired.links l lt).ends
    where
      go : StreamLink net l ⊎ (ReplicaLink net l ⊎ MergerLink net l) → flow net rows (meaning g rows entries) l ≡ expects (meaning g rows entries) (net.part (net.link l).to) (net.link l).input
      go (inl s) =
          flow-at (net.part (net.link l).from) (net.link l).output s.stream (wired.parts (net.link l).from (from-within net wired l lt)) (meet (net.link l).from (from-within net wired l lt)) s.carried
          ∙ sym (expects-at (net.part (net.link l).to) (net.link l).input s.stream s.connected)
      go (inr r) = channel-meets net l r

  pub wired-flowing : (net : Net) (lists : NetworkLists) → IsWired g net → RegionsHold net (meaning g rows entries) → IsUnder net lists rows entries
      → IsFlowing net (meaning g rows entries) rows entries
  wired-flowing net lists wired holds under = record {
    is_net = wired-net g net wired;
    fed = wired.fed;
    meets = meets-at net wired holds;
    binds = λ e t lt. binds-full (net.part e) t (lists.taken e) (wired.parts e lt) (holds e lt) (under e lt);
    owes = λ e t o lt within. ap (on_output o) (owes-full (net.part e) t (wired.parts e lt));
  }

  pub link-flow : (net : Net) → IsWired g net → (l s : ℕ) → l < net.links → RegionMeets (meaning g rows entries) (net.part (net.link l).from) → Carries (net.part (net.link l).from) (net.link l).output s
      → flow net rows (meaning g rows entries) l ≡ packets_of ((meaning g rows entries).streams s)
  link-flow net wired l s lt meet c = flow-at (net.part (net.link l).from) (net.link l).output s (wired.parts (net.link l).from (from-within net wired l lt)) meet c

  pub link-front : (net : Net) → IsWired g net → RegionsHold net (meaning g rows entries) → (l s : ℕ) → l < net.links → Carries (net.part (net.link l).from) (net.link l).output s
      → IsPrefix (flow net rows (meaning g rows entries) l) (packets_of ((meaning g rows entries).streams s))
  link-front net wired holds l s lt c =
      front-at (net.part (net.link l).from) (net.link l).output s (wired.parts (net.link l).from (from-within net wired l lt)) (holds (net.link l).from (from-within net wired l lt)) c

pub flow_law : FlowLaw
flow_law g net rows entries wired meet l s lt c =
    link-flow g rows entries wired.ordered wired.numbered net wired l s lt (meet (net.link l).from (from-within g rows entries wired.ordered wired.numbered net wired l lt)) c

-- what went over a link is a front of its stream, at any moment
pub progress-links : (g : Graph) (net : Net) (lists : NetworkLists) (rows : Lists) (entries : Entries) → IsWired g net → RegionsHold net (meaning g rows entries) → InProgress net lists → IsUnder net lists rows entries
    → (l s : ℕ) → l < net.links → Carries (net.part (net.link l).from) (net.link l).output s
    → IsPrefix (items_in (lists.sent (net.link l).from (net.link l).output)) ((meaning g rows entries).streams s)
progress-links g net lists rows entries wired holds j under l s lt c =
    let sent : List Packet = lists.sent (net.link l).from (net.link l).output in
    let front = flow-front net (meaning g rows entries) rows entries lists (wired-flowing g rows entries wired.ordered wired.numbered net lists wired holds under) j under l lt in
    front-left (items_in sent) (items_in (without_cut sent)) ((meaning g rows entries).streams s) (items_in (packets_of ((meaning g rows entries).streams s)))
    (sym (items_in-without_cut sent)) (sym (items_in-packets_of ((meaning g rows entries).streams s)))
    (front-items (without_cut sent) (packets_of ((meaning g rows entries).streams s))
    (front-trans (without_cut sent) (flow net rows (meaning g rows entries) l) (packets_of ((meaning g rows entries).streams s)) front
    (link-front g rows entries wired.ordered wired.numbered net wired holds l s lt c)))

pub joined_law : JoinedLaw
joined_law g net lists rows entries wired holds j under l s lt c = progress-links g net lists rows entries wired holds (joined_are_in_progress net lists j) under l s lt c

-- ---- regions of settled lists

pub merger-at : (net : Net) (l : ℕ) (region : RegionPart) (outs : List ℕ) → LinkFits net l → net.part (net.link l).to ≡ Merger region outs → (r : MergerLink net l) × (r.region ≡ region)
merger-at net l region outs k is = go k.ends
  where
    go : StreamLink net l ⊎ (ReplicaLink net l ⊎ MergerLink net l) → (r : MergerLink net l) × (r.region ≡ region)
    go (inl s) = absurd (subst (λ z. Connects z (net.link l).input s.stream) is s.connected)
    go (inr (inl r)) = let clash : Replica r.region (net.link l).output ≡ Merger region outs = sym r.to ∙ is in absurd (cc)
    go (inr (inr r)) = let same : Merger r.region r.outs ≡ Merger region outs = sym r.to ∙ is in (r, cc)

pub replica-at : (net : Net) (l : ℕ) (region : RegionPart) (channel : ℕ) → LinkFits net l → net.part (net.link l).to ≡ Replica region channel → (r : ReplicaLink net l) × (r.region ≡ region)
replica-at net l region channel k is = go k.ends
  where
    go : StreamLink net l ⊎ (ReplicaLink net l ⊎ MergerLink net l) → (r : ReplicaLink net l) × (r.region ≡ region)
    go (inl s) = absurd (subst (λ z. Connects z (net.link l).input s.stream) is s.connected)
    go (inr (inl r)) = let same : Replica r.region (net.link l).output ≡ Replica region channel = sym r.to ∙ is in (r, cc)
    go (inr (inr r)) = let clash : Merger r.region r.outs ≡ Replica region channel = sym r.to ∙ is in absurd (cc)

pub splitter-at : (net : Net) (l : ℕ) (region : RegionPart) → LinkFits net l → net.part (net.link l).to ≡ Splitter region → (s : StreamLink net l) × (region.entry ≡ s.stream)
splitter-at net l region k is = go k.ends
  where
    go : StreamLink net l ⊎ (ReplicaLink net l ⊎ MergerLink net l) → (s : StreamLink net l) × (region.entry ≡ s.stream)
    go (inl s) = let c : Connects (Splitter region) (net.link l).input s.stream = subst (λ z. Connects z (net.link l).input s.stream) is s.connected in (s, c.1)
    go (inr (inl r)) = let clash : Replica r.region (net.link l).output ≡ Splitter region = sym r.to ∙ is in absurd (cc)
    go (inr (inr r)) = let clash : Merger r.region r.outs ≡ Splitter region = sym r.to ∙ is in absurd (cc)

-- the link that brings the stream that enters a region
record Entry (net : Net) (e : ℕ) (region : RegionPart) : Type 0 where
  link : ℕ
  within : link < net.links
  before : (net.link link).from < e
  streamed : StreamLink net link
  entry : region.entry ≡ streamed.stream

entry-of : (g : Graph) (net : Net) → IsWired g net → (e : ℕ) (region : RegionPart) (outs : List ℕ) → e < net.size → net.part e ≡ Merger region outs → 0 < region.width → Entry net e region
entry-of g net wired e region outs size is some = first (wired.fed e 0 size (subst (λ z. 0 < inputs z) (sym is) some))
  where
    from : (l : ℕ) → l < net.links → (net.link l).from < net.size
    from l lt = let k = wired.links l lt in let low : (net.link l).from < (net.link l).to = k.earlier in let top : (net.link l).to < net.size = k.within in omega (arith, low, top)

    third : (two : ℕ) (second : RegionPart) → two < e → two < net.size → net.part two ≡ Splitter second → second ≡ region → Fed net two 0 → Entry net e region
    third two second low at part same fed =
        let x = splitter-at net fed.link second (wired.links fed.link fed.within) (ap net.part fed.to ∙ part) in
        let to : (net.link fed.link).to ≡ two = fed.to in
        let earlier : (net.link fed.link).from < (net.link fed.link).to = (wired.links fed.link fed.within).earlier in
        record { link = fed.link; within = fed.within; before = omega (arith, earlier, to, low); streamed = x.0; entry = ap (λ (z : RegionPart). z.entry) (sym same) ∙ x.1 }

    second : (one channel : ℕ) (first : RegionPart) → one < e → one < net.size → net.part one ≡ Replica first channel → first ≡ region → Fed net one 0 → Entry net e region
    second one channel first low at part same fed =
        let x = replica-at net fed.link first channel (wired.links fed.link fed.within) (ap net.part fed.to ∙ part) in
        let to : (net.link fed.link).to ≡ one = fed.to in
        let earlier : (net.link fed.link).from < (net.link fed.link).to = (wired.links fed.link fed.within).earlier in
        let size : (net.link fed.link).from < net.size = from fed.link fed.within in
        third (net.link fed.link).from x.0.region (omega (arith, earlier, to, low)) size x.0.from (x.1 ∙ same)
        (wired.fed (net.link fed.link).from 0 size (subst (λ z. 0 < inputs z) (sym x.0.from) (omega arith)))

    first : Fed net e 0 → Entry net e region
    first fed =
        let x = merger-at net fed.link region outs (wired.links fed.link fed.within) (ap net.part fed.to ∙ is) in
        let to : (net.link fed.link).to ≡ e = fed.to in
        let earlier : (net.link fed.link).from < (net.link fed.link).to = (wired.links fed.link fed.within).earlier in
        let size : (net.link fed.link).from < net.size = from fed.link fed.within in
        second (net.link fed.link).from (net.link fed.link).input x.0.region (omega (arith, earlier, to)) size x.0.from x.1
        (wired.fed (net.link fed.link).from 0 size (subst (λ z. 0 < inputs z) (sym x.0.from) (omega arith)))

module _ (g : Graph) (net : Net) (lists : NetworkLists) (rows : Lists) (entries : Entries) (wired : IsWired g net) (holds : RegionsHold net (meaning g rows entries)) (s : Settled net lists) (under : IsUnder net lists rows entries) where
  flowing : IsFlowing net (meaning g rows entries) rows entries
  flowing = wired-flowing g rows entries wired.ordered wired.numbered net lists wired holds under

  meets-by : (e : ℕ) → e < net.size → ((d : ℕ) → d < e → d < net.size → RegionMeets (meaning g rows entries) (net.part d)) → (part : Part) → net.part e ≡ part → RegionMeets (meaning g rows entries) part
  meets-by e size earlier (FromSource source ops outs) is = tt
  meets-by e size earlier (FromLinks op ops outs) is = tt
  meets-by e size earlier (Splitter region) is = tt
  meets-by e size earlier (Replica region channel) is = tt
  meets-by e size earlier (Merger region outs) is =
      let fits : PartFits g (Merger region outs) = subst (PartFits g) is (wired.parts e size) in
      let n : Entry net e region = entry-of g net wired e region outs size is fits.0.some in
      let low : (net.link n.link).from < e = n.before in
      let at : (net.link n.link).from < net.size = omega (arith, low, size) in
      let carries : flow net rows (meaning g rows entries) n.link ≡ packets_of ((meaning g rows entries).streams n.streamed.stream) =
      link-flow g rows entries wired.ordered wired.numbered net wired n.link n.streamed.stream n.within (earlier (net.link n.link).from low at) n.streamed.carried in
      let ends = flow-ends net (meaning g rows entries) rows entries lists flowing s under n.link n.within in
      let closed : is_closed ((meaning g rows entries).streams n.streamed.stream) ≡ true =
      closed-packets ((meaning g rows entries).streams n.streamed.stream) (ap stops_once (sym carries) ∙ ends.0) (ap has_last (sym carries) ∙ ends.1) in
      let held : RegionHolds (meaning g rows entries) (Merger region outs) = subst (RegionHolds (meaning g rows entries)) is (holds e size) in
      held.whole (ap (λ z. is_closed ((meaning g rows entries).streams z)) n.entry ∙ closed)

  meets-all : (b e : ℕ) → e < b → e < net.size → RegionMeets (meaning g rows entries) (net.part e)
  meets-all zero e lt size = absurd (omega (arith, lt))
  meets-all (suc b) e lt size = meets-by e size (λ d lower within. meets-all b d (omega (arith, lower, lt)) within) (net.part e) refl

  pub settled-meets : RegionsMeet net (meaning g rows entries)
  settled-meets e size = meets-all (suc e) e (omega arith) size

pub meet_law : MeetLaw
meet_law g net lists rows entries wired holds s under = settled-meets g net lists rows entries wired holds s under

pub settled_law : SettledLaw
settled_law g net lists rows entries wired holds s under l stream lt c =
    flow-all net (meaning g rows entries) rows entries lists (wired-flowing g rows entries wired.ordered wired.numbered net lists wired holds under) s under l lt
    ∙ flow_law g net rows entries wired (settled-meets g net lists rows entries wired holds s under) l stream lt c
