-- What goes over a link outside regions is proper.
use Rattle.std.proofs.Common.{ℕ, ◌<◌, Bool, true, false, List, [], ◌∷◌, ◌++◌, ◌≡◌, ◌⊎◌, refl, sym, ap, ◌∙◌, append-nil, map, inl, inr}
use Rattle.spl_value.specs.declared.item.Item.{Item}
use Rattle.spl_value.specs.declared.packet.Packet.{Packet}
use Rattle.spl_value.specs.declared.packet.Packet.TheVariants as P
use Rattle.spl_value.specs.declared.types.Named.{Named}
use Rattle.spl_value.specs.declared.types.SplType.{SplType}
use Rattle.spl_value.specs.Numbered.{item_fits, stops_once, merged, IsProper}
use Rattle.stream_model.specs.Stream.{IsPrefix}
use Rattle.stream_model.specs.Bodies.{output}
use Rattle.stream_model.specs.Meaning.{Graph, Lists, Entries, Meaning, meaning}
use Rattle.stream_model.specs.Sending.{on_output}
use Rattle.network_model.specs.Packets.{has_last, without_cut, packets_of}
use Rattle.network_model.specs.Networks.{Part, FromSource, FromLinks, Splitter, Replica, Merger, outputs, Net}
use Rattle.network_model.specs.Receipts.{Taken}
use Rattle.network_model.specs.Owed.{owed, taken_of, Binds}
use Rattle.network_model.specs.States.{State, begin, after_all}
use Rattle.network_model.specs.Joined.{NetworkLists, IsCutOff, IsJoined, InProgress, taken_at, lists_of}
use Rattle.network_model.specs.Wiring.{IsWired, PartFits, Carries}
use Rattle.network_model.specs.Flow.{flows, flow, channel_flow, IsUnder}
use Rattle.network_model.specs.PartLaws.{IsPart}
use Rattle.network_laws.specs.Shaped.{IsNet}
use Rattle.network_laws.specs.Flowing.{IsFlowing}
use Rattle.network_laws.specs.RegionStreams.{RegionHolds, RegionsHold}
use Rattle.network_laws.specs.Propers.{StreamProper, JoinedProper, LegalProper}
use Rattle.network_model.proofs.Packets.{without_cut-packets_of, stops-front}
use Rattle.network_model.proofs.Sending.{on_output-send_all}
use Rattle.network_model.proofs.Chains.{on_port-outputs}
use Rattle.network_laws.proofs.Flowing.{joined_are_in_progress, flow-front, flow-stops, binds-at}
use Rattle.network_laws.proofs.Joining.{wired-net, wired-flowing, flow-at, from-within}
use Rattle.network_laws.proofs.Legal.{NetKeeps, keep-begin, keep-all}
use Rattle.network_model.proofs.ElementLists.{stops-kept_in, stops-push, taken-at}
use Rattle.network_model.proofs.Propers.{all-front, proper-front, proper-part, stops-stream}
use Rattle.network_laws.proofs.Ending.{progress-state}

-- ---- nothing behind `Close` or `Cut`

stops-joined : (part : Part) (t : Taken) (sent : ℕ → List Packet) (cut : Bool) (o : ℕ) → IsPart part → IsJoined part t sent cut → Binds part t → o < outputs part → stops_once (sent o) ≡ true
stops-joined part t sent false o laws j b lt = ap stops_once (j.all_sent refl b o lt) ∙ laws.stops t o b
stops-joined part t sent true o laws j b lt = go (j.front_sent refl b o lt)
  where
    go : IsCutOff (on_output o (owed part t)) (sent o) → stops_once (sent o) ≡ true
    go c = by c.is_sent
      where
        front : stops_once c.front ≡ true
        front = let p : IsPrefix c.front (on_output o (owed part t)) = c.is_front in stops-front c.front p.0 (ap stops_once p.1 ∙ laws.stops t o b)

        by : ((has_last c.front ≡ true) × (sent o ≡ c.front)) ⊎ ((has_last c.front ≡ false) × (sent o ≡ c.front ++ P.Cut ∷ [])) → stops_once (sent o) ≡ true
        by (inl h) = ap stops_once h.1 ∙ front
        by (inr h) = ap stops_once h.1 ∙ stops-push c.front front h.0

-- ---- links

-- the flow of a link outside regions is that of a front of its stream
record OfStream (packets : List Packet) (stream : List Item) : Type 0 where
  items : List Item
  are : packets ≡ packets_of items
  front : IsPrefix items stream

flow-of : (g : Graph) (net : Net) (rows : Lists) (entries : Entries) (wired : IsWired g net) → (part : Part) (o s : ℕ) → PartFits g part → RegionHolds (meaning g rows entries) part → Carries part o s
    → OfStream (on_output o (flows rows (meaning g rows entries) part)) ((meaning g rows entries).streams s)
flow-of g net rows entries wired (FromSource source ops outs) o s fits holds c =
    record { items = (meaning g rows entries).streams s; are = flow-at g rows entries wired.ordered wired.numbered (FromSource source ops outs) o s fits tt c; front = ([], append-nil ((meaning g rows entries).streams s)) }
flow-of g net rows entries wired (FromLinks op ops outs) o s fits holds c =
    record { items = (meaning g rows entries).streams s; are = flow-at g rows entries wired.ordered wired.numbered (FromLinks op ops outs) o s fits tt c; front = ([], append-nil ((meaning g rows entries).streams s)) }
flow-of g net rows entries wired (Splitter region) o s fits holds c = absurd c
flow-of g net rows entries wired (Replica region channel) o s fits holds c = absurd c
flow-of g net rows entries wired (Merger region outs) o s fits holds c =
    let xs : List Item = merged region.rule region.width (channel_flow region (meaning g rows entries)) in
    record {
      items = merged region.rule region.width (channel_flow region (meaning g rows entries));
      are = on_output-send_all outs o 0 (map (output 0) xs) c.0 ∙ ap packets_of (on_port-outputs 0 xs);
      front = (holds.front.0, holds.front.1 ∙ ap (meaning g rows entries).streams c.1);
    }

pub stream_proper : StreamProper
stream_proper g net lists rows entries schema wired holds j under l s lt c fit =
    let m : Meaning = meaning g rows entries in
    let f : IsFlowing net (meaning g rows entries) rows entries = wired-flowing g rows entries wired.ordered wired.numbered net lists wired holds under in
    let from : (net.link l).from < net.size = from-within g rows entries wired.ordered wired.numbered net wired l lt in
    let of = flow-of g net rows entries wired (net.part (net.link l).from) (net.link l).output s (wired.parts (net.link l).from from) (holds (net.link l).from from) c in
    let stops : stops_once (flow net rows (meaning g rows entries) l) ≡ true = flow-stops net m rows entries lists f j under l lt in
    let clean : without_cut (flow net rows (meaning g rows entries) l) ≡ flow net rows (meaning g rows entries) l =
    ap without_cut of.are ∙ without_cut-packets_of of.items ∙ sym of.are in
    proper-front schema (flow net rows (meaning g rows entries) l) of.items ([], append-nil (without_cut (flow net rows (meaning g rows entries) l)) ∙ clean ∙ of.are) stops
    (stops-stream of.items (ap stops_once (sym of.are) ∙ stops))
    (all-front (item_fits schema) of.items ((meaning g rows entries).streams s) of.front fit)

proper-progress : (g : Graph) (net : Net) (lists : NetworkLists) (rows : Lists) (entries : Entries) (schema : List (Named SplType)) (wired : IsWired g net) (holds : RegionsHold net (meaning g rows entries))
    → InProgress net lists → IsUnder net lists rows entries → (l : ℕ) → l < net.links → IsProper schema (flow net rows (meaning g rows entries) l)
    → stops_once (lists.sent (net.link l).from (net.link l).output) ≡ true → IsProper schema (lists.sent (net.link l).from (net.link l).output)
proper-progress g net lists rows entries schema wired holds j under l lt proper stops =
    proper-part schema (lists.sent (net.link l).from (net.link l).output) (flow net rows (meaning g rows entries) l)
    (flow-front net (meaning g rows entries) rows entries lists (wired-flowing g rows entries wired.ordered wired.numbered net lists wired holds under) j under l lt) stops proper

pub joined_proper : JoinedProper
joined_proper g net lists rows entries schema wired holds j under l lt proper =
    let f : IsFlowing net (meaning g rows entries) rows entries = wired-flowing g rows entries wired.ordered wired.numbered net lists wired holds under in
    let progress : InProgress net lists = joined_are_in_progress net lists j in
    let from : (net.link l).from < net.size = from-within g rows entries wired.ordered wired.numbered net wired l lt in
    proper-progress g net lists rows entries schema wired holds progress under l lt proper
    (stops-joined (net.part (net.link l).from) (lists.taken (net.link l).from) (lists.sent (net.link l).from) (lists.cut (net.link l).from) (net.link l).output (f.is_net.parts (net.link l).from from)
    (j.elements (net.link l).from from) (binds-at net (meaning g rows entries) rows entries lists f progress under (net.link l).from from) (f.is_net.output l lt))

pub legal_proper : LegalProper
legal_proper g net list rows entries schema wired holds legal under l lt proper =
    let st : State = after_all net begin list in
    let is : IsNet net = wired-net g net wired in
    let k : NetKeeps net (after_all net begin list) = keep-all net begin list is legal.legal (keep-begin net is) in
    let progress : InProgress net (lists_of net (after_all net begin list)) = progress-state net (after_all net begin list) is k in
    let f : IsFlowing net (meaning g rows entries) rows entries = wired-flowing g rows entries wired.ordered wired.numbered net (lists_of net (after_all net begin list)) wired holds under in
    let from : (net.link l).from < net.size = from-within g rows entries wired.ordered wired.numbered net wired l lt in
    proper-progress g net (lists_of net (after_all net begin list)) rows entries schema wired holds progress under l lt proper
    (stops-kept_in (net.part (net.link l).from) (after_all net begin list (net.link l).from) (is.parts (net.link l).from from) (k.elements (net.link l).from from).rule
    ((is.parts (net.link l).from from).binds (taken_of (net.part (net.link l).from) (after_all net begin list (net.link l).from).kept) (taken_at (net.part (net.link l).from) (after_all net begin list (net.link l).from))
    (taken-at (net.part (net.link l).from) (after_all net begin list (net.link l).from))
    (binds-at net (meaning g rows entries) rows entries (lists_of net (after_all net begin list)) f progress under (net.link l).from from)) (net.link l).output (is.output l lt))
