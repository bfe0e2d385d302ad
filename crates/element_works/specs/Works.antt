-- For what the work of an element stands: its operators, its splitter.
use Rattle.std.specs.Prelude.{ℕ, ◌≡◌, ◌⊎◌, ◌<◌, ◌≤◌, ◌^◌, ◌%◌, ◌==◌, ◌&&◌, if◌then◌else◌, Bool, List, [], ◌∷◌, ◌++◌, map, length}
use Rattle.hash_splitter.specs.Splitting.{Splitting}
use Rattle.spl_value.specs.declared.item.Item.{Item}
use Rattle.spl_value.specs.declared.packet.Packet.{Packet}
use Rattle.spl_value.specs.declared.packet.Packet.TheVariants as P
use Rattle.language_model.specs.declared.outs.Output.{Output}
use Rattle.stream_model.specs.Bodies.{output}
use Rattle.stream_model.specs.Chains.{chain_after, chain_gives, stages_passed}
use Rattle.stream_model.specs.Fans.{on_outputs, ports_of_fans}
use Rattle.stream_model.specs.Operators.{Operator}
use Rattle.stream_model.specs.Regions.{has_pulses}
use Rattle.stream_model.specs.Sending.{outgoing, stages_after}
use Rattle.stream_model.specs.Stages.{Stage, on_port, start}
use Rattle.stream_model.specs.Stream.{Event, came, is_empty}
use Rattle.stream_model.specs.declared.outgoing.Outgoing.{Outgoing}
use Rattle.network_model.specs.Adds.{adds}
use Rattle.network_model.specs.Networks.{Part, RegionPart, FromSource, FromLinks, Splitter, Replica, Merger, last_of}
use Rattle.network_model.specs.Owed.{given, taken_of}
use Rattle.network_model.specs.Packets.{items_in}
use Rattle.network_model.specs.Receipts.{Receipt, Popped, WasRead, item_events, popped, read_in}
use Rattle.network_model.specs.Sinks.{is_sink, pours_more}
use Rattle.operator_chains.specs.Standing.{AtChain, MayFeed, places_of}
use Rattle.operator_chains.specs.declared.chain.Chain.{Chain}
use Rattle.element_outboxes.specs.Waiting.{fan_outputs, fans_from, outputs_in, waits}
use Rattle.element_outboxes.specs.declared.fan.Fan.{Fan}
use Rattle.element_outboxes.specs.declared.outbox.Outbox.{Outbox}
use Rattle.element_works.specs.Tuples.{room_of, sink_waits}
use Rattle.element_works.specs.declared.tuples.Tuples.{Tuples}

-- ---- chains

-- where the operators of a chain stand behind what it has taken
abbrev pub stages_at : Part → List Receipt → List Stage
stages_at (FromSource source ops outs) receipts = stages_passed (map start ops) (map (output 0) (read_in receipts))
stages_at (FromLinks op ops outs) receipts = chain_after (map start (op ∷ ops)) (item_events receipts)
stages_at (Splitter region) receipts = []
stages_at (Replica region channel) receipts = []
stages_at (Merger region outs) receipts = []

-- what is taken is this item, at this input of the first operator; an item that is read comes at the first one
abbrev pub IsEvent : Part → Receipt → ℕ → Item → Type 0
IsEvent (FromSource source ops outs) (WasRead x) i item = (i ≡ 0) × (x ≡ item)
IsEvent (FromLinks op ops outs) (Popped j (P.Item number x)) i item = (j ≡ i) × (x ≡ item)
IsEvent part receipt i item = ⊥

-- its last operator gives nothing, whatever is taken
abbrev pub IsSilent : Part → Type 0
IsSilent part = (receipts : List Receipt) → given part (taken_of part receipts) ≡ []

-- the outputs of a chain, whose last operator has so many connections at each port; one without a port is a sink, or it
-- gives nothing
abbrev pub HasFans : Part → List ℕ → Type 0
HasFans (FromSource source ops outs) counts =
    (outs ≡ ports_of_fans counts)
    × ((is_sink (last_of source ops).clauses ≡ is_empty counts) ⊎ IsSilent (FromSource source ops outs))
HasFans (FromLinks op ops outs) counts =
    (outs ≡ ports_of_fans counts) × ((is_sink (last_of op ops).clauses ≡ is_empty counts) ⊎ IsSilent (FromLinks op ops outs))
HasFans (Splitter region) counts = ⊥
HasFans (Replica region channel) counts = ⊥
HasFans (Merger region outs) counts = ⊥

-- a chain that has taken this
pub record ChainAt {R : Type 0} (spec : R → Operator) (stands : R → List Event → Type 0) (part : Part) (receipts : List Receipt) (chain : Chain R) (fans : List Fan) (tuples : Tuples) : Type 0 where
  pub operators : AtChain spec stands chain (stages_at part receipts)
  pub counts : List ℕ
  pub has_fans : HasFans part counts
  pub fans_are : fans ≡ fans_from 0 counts
  pub few : outputs_in counts < 2 ^ 32
  pub room : room_of tuples ≡ places_of chain

-- it may take this item
abbrev pub MayTakeItem : {R : Type 0} (spec : R → Operator) (stands : R → List Event → Type 0) → Chain R → List Fan → Tuples → ℕ → Item → Type 0
MayTakeItem spec stands chain fans tuples i item =
    (part : Part) × (receipts : List Receipt) × ChainAt spec stands part receipts chain fans tuples
    × MayFeed (stages_at part receipts) (came i item)

-- it has taken it: what it owes for it waits, and so do the tuples for its sink
abbrev pub HasTakenItem : {R : Type 0} (spec : R → Operator) (stands : R → List Event → Type 0) → Chain R → Chain R → List Fan
    → Tuples → Tuples → Outbox → Outbox → ℕ → Item → Type 0
HasTakenItem spec stands chain chain2 fans tuples tuples2 outbox outbox2 i item =
    (part : Part) (receipts : List Receipt) (r : Receipt) → IsEvent part r i item
    → ChainAt spec stands part receipts chain fans tuples → MayFeed (stages_at part receipts) (came i item)
    → ChainAt spec stands part (receipts ++ r ∷ []) chain2 fans tuples2
    × (waits outbox2 ≡ waits outbox ++ adds part receipts r)
    × (sink_waits tuples2 ≡ sink_waits tuples ++ pours_more part receipts r)

-- ---- replicas

-- the replica of a channel that has taken this
pub record ReplicaAt {R : Type 0} (spec : R → Operator) (stands : R → List Event → Type 0) (region : RegionPart) (receipts : List Receipt) (chain : Chain R) (tuples : Tuples) : Type 0 where
  pub operators : AtChain spec stands chain (stages_after (map start region.ops) (items_in (popped 0 receipts)))
  pub room : room_of tuples ≡ places_of chain

-- what it answers with what its operators give for an item of this number
abbrev pub answers : ℕ → List Output → List Outgoing
answers number outs = map (outgoing 0) (map (P.Item number) (on_port 0 outs))

-- its operators may take an item
abbrev pub MayAnswer : {R : Type 0} (spec : R → Operator) (stands : R → List Event → Type 0) → Chain R → Tuples → Item → Type 0
MayAnswer spec stands chain tuples item =
    (ss : List Stage) × AtChain spec stands chain ss × MayFeed ss (came 0 item) × (room_of tuples ≡ places_of chain)

-- they have taken it, and what they gave waits under its number
abbrev pub HasAnswered : {R : Type 0} (spec : R → Operator) (stands : R → List Event → Type 0) → Chain R → Chain R → Tuples → Tuples
    → Outbox → Outbox → ℕ → Item → Type 0
HasAnswered spec stands chain chain2 tuples tuples2 outbox outbox2 number item =
    (ss : List Stage) → AtChain spec stands chain ss → MayFeed ss (came 0 item) → room_of tuples ≡ places_of chain
    → AtChain spec stands chain2 (chain_after ss (came 0 item ∷ [])) × (room_of tuples2 ≡ places_of chain2)
    × (waits outbox2 ≡ waits outbox ++ answers number (chain_gives ss (came 0 item ∷ [])))

-- a replica may take an item that its operators may take, and any other packet
abbrev pub Comes : List Stage → Packet → Type 0
Comes ss (P.Item number item) = MayFeed ss (came 0 item)
Comes ss (P.Pulse number) = Unit {0}
Comes ss P.Close = Unit {0}
Comes ss P.Cut = Unit {0}

abbrev pub MayReply : {R : Type 0} (spec : R → Operator) (stands : R → List Event → Type 0) → Chain R → Tuples → Packet → Type 0
MayReply spec stands chain tuples packet =
    (region : RegionPart) × (receipts : List Receipt) × ReplicaAt spec stands region receipts chain tuples
    × Comes (stages_after (map start region.ops) (items_in (popped 0 receipts))) packet

-- it has taken the packet, and what it owes for it waits
abbrev pub HasReplied : {R : Type 0} (spec : R → Operator) (stands : R → List Event → Type 0) → Chain R → Chain R → Tuples → Tuples
    → Outbox → Outbox → Packet → Type 0
HasReplied spec stands chain chain2 tuples tuples2 outbox outbox2 packet =
    (region : RegionPart) (receipts : List Receipt) (channel : ℕ) → ReplicaAt spec stands region receipts chain tuples
    → Comes (stages_after (map start region.ops) (items_in (popped 0 receipts))) packet
    → ReplicaAt spec stands region (receipts ++ Popped 0 packet ∷ []) chain2 tuples2
    × (waits outbox2 ≡ waits outbox ++ adds (Replica region channel) receipts (Popped 0 packet))

-- ---- splitters

pub record SplitterAt (region : RegionPart) (receipts : List Receipt) (s : Splitting) : Type 0 where
  pub same_routing : s.routing ≡ region.routing
  pub same_width : s.width ≡ region.width
  pub same_pulses : s.pulses ≡ has_pulses region.rule
  pub count : s.sent ≡ length (items_in (popped 0 receipts))
  pub earlier : s.pulsed ≤ s.sent

-- a pulse on each of these outputs, where one is due behind the items that were sent
abbrev pub pulse_behind : Splitting → Fan → List Outgoing
pulse_behind s fan = if s.pulses && (s.sent % 16 == 0) then on_outputs (fan_outputs fan) (P.Pulse s.sent) else []

-- `Close` on each of them, where the last item was sent
abbrev pub close_behind : Bool → Fan → List Outgoing
close_behind last fan = if last then on_outputs (fan_outputs fan) P.Close else []
