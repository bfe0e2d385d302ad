-- For what the work of an element stands, and what it may take.
use Rattle.std.specs.Prelude.{◌≡◌, ◌<◌, ◌≤◌, ◌^◌, ◌&&◌, not, ℕ, Bool, true, false, List, [], ◌∷◌, ◌++◌, length, map}
use Rattle.spl_value.specs.declared.item.Item.{Item}
use Rattle.spl_value.specs.declared.packet.Packet.{Packet}
use Rattle.spl_value.specs.declared.packet.Packet.TheVariants as P
use Rattle.spl_value.specs.Numbered.{Rule, ByTurns, ByNumbers, ByPulses, InOrder}
use Rattle.channel_heads.specs.Held.{Held, MergerHolds, wants, width_of}
use Rattle.hash_splitter.specs.Splitting.{IsRoutable}
use Rattle.order_merger.specs.Merging.{Turning, TurnStands, Numbering, NumberStands}
use Rattle.stream_model.specs.Fans.{ports_of_fans}
use Rattle.stream_model.specs.Operators.{Operator}
use Rattle.stream_model.specs.Sending.{stages_after}
use Rattle.stream_model.specs.Stages.{Stage, stage_after, start}
use Rattle.stream_model.specs.Stream.{Event, came, any_closes}
use Rattle.network_model.specs.Adds.{adds}
use Rattle.network_model.specs.Legal.{wants as may_pop}
use Rattle.network_model.specs.Networks.{Part, RegionPart, FromSource, FromLinks, Splitter, Replica, Merger}
use Rattle.network_model.specs.Owed.{taken_of}
use Rattle.network_model.specs.Packets.{has_last, items_in}
use Rattle.network_model.specs.Receipts.{Receipt, Popped, WasRead, item_events, popped}
use Rattle.network_model.specs.Sinks.{pours_more}
use Rattle.operator_chains.specs.Standing.{MayFeed}
use Rattle.element_outboxes.specs.Waiting.{waits}
use Rattle.element_outboxes.specs.declared.fan.Fan.{Fan}
use Rattle.element_outboxes.specs.declared.outbox.Outbox.{Outbox}
use Rattle.element_works.specs.Tuples.{sink_waits}
use Rattle.element_works.specs.Works.{ChainAt, Comes, ReplicaAt, SplitterAt, stages_at}
use Rattle.element_works.specs.declared.tuples.Tuples.{Tuples}
use Rattle.merger_works.specs.Merging.{MergerAt}
use Rattle.elements.specs.declared.work.Work.{Work}
use Rattle.elements.specs.declared.work.Work.TheVariants as W

-- ---- where it stands

-- the merger of a region by this rule: the packets in its receipts are in order, and it has sent all that is merged
pub record MergesAt {M : Type 0} (held : M → Held) (stands : ℕ → M → (ℕ → List Packet) → List Item → Type 0)
    (rule : Rule) (region : RegionPart) (outs : List ℕ) (receipts : List Receipt) (m : M) (fans : List Fan) : Type 0 where
  pub same_rule : region.rule ≡ rule
  pub counts : List ℕ
  pub outs_are : outs ≡ ports_of_fans counts
  pub merger : MergerAt held stands rule region.width counts receipts m fans
  pub order : InOrder region.rule region.width (λ c. popped c receipts)

-- the work of an element that isn't cut, and has taken this
abbrev pub WorkAt : {R : Type 0} (spec : R → Operator) (stands : R → List Event → Type 0) → Part → List Receipt
    → Work R → List Fan → Tuples → Type 0
WorkAt spec stands (FromSource source ops outs) receipts (W.Chain chain) fans tuples =
    ChainAt spec stands (FromSource source ops outs) receipts chain fans tuples
WorkAt spec stands (FromLinks op ops outs) receipts (W.Chain chain) fans tuples =
    ChainAt spec stands (FromLinks op ops outs) receipts chain fans tuples
WorkAt spec stands (Splitter region) receipts (W.Splitter splitter) fans tuples =
    SplitterAt region receipts splitter × (length fans ≡ region.width) × (region.width ≤ 16)
WorkAt spec stands (Replica region channel) receipts (W.Replica chain) fans tuples =
    ReplicaAt spec stands region receipts chain tuples × (sink_waits tuples ≡ [])
WorkAt spec stands (Merger region outs) receipts (W.Turns merger) fans tuples =
    MergesAt (λ (m : Turning). m.held) TurnStands ByTurns region outs receipts merger fans
WorkAt spec stands (Merger region outs) receipts (W.Numbers merger) fans tuples =
    MergesAt (λ (m : Numbering). m.held) NumberStands ByNumbers region outs receipts merger fans
WorkAt spec stands (Merger region outs) receipts (W.Pulses merger) fans tuples =
    MergesAt (λ (m : Held). m) (MergerHolds ByPulses) ByPulses region outs receipts merger fans
WorkAt spec stands part receipts work fans tuples = ⊥

-- the work wants a packet from an input: a merger on a channel without a head
abbrev pub HasInput : {R : Type 0} → Work R → ℕ → Type 0
HasInput (W.Chain chain) i = Unit {0}
HasInput (W.Replica chain) i = Unit {0}
HasInput (W.Splitter splitter) i = Unit {0}
HasInput (W.Turns merger) i = i < width_of merger.held
HasInput (W.Numbers merger) i = i < width_of merger.held
HasInput (W.Pulses merger) i = i < width_of merger

abbrev pub wants_more : {R : Type 0} → Work R → ℕ → Bool
wants_more (W.Chain chain) i = true
wants_more (W.Replica chain) i = true
wants_more (W.Splitter splitter) i = true
wants_more (W.Turns merger) i = wants merger.held i
wants_more (W.Numbers merger) i = wants merger.held i
wants_more (W.Pulses merger) i = wants merger i

-- ---- what it may take

-- the first operator of a chain may take an item, and any other packet is none of its events
abbrev pub Feeds : List Stage → ℕ → Packet → Type 0
Feeds stages i (P.Item number item) = MayFeed stages (came i item)
Feeds stages i (P.Pulse number) = Unit {0}
Feeds stages i P.Close = Unit {0}
Feeds stages i P.Cut = Unit {0}

-- a splitter may route an item behind these, none of which closes the stream
abbrev pub Enters : RegionPart → List Item → Packet → Type 0
Enters region items (P.Item number item) =
    (length items < 2 ^ 61) × IsRoutable region.routing item × (any_closes items ≡ false)
Enters region items (P.Pulse number) = Unit {0}
Enters region items P.Close = Unit {0}
Enters region items P.Cut = Unit {0}

-- a merger may take a packet on a channel from which the network lets it pop, where the packets are in order then
pub record Merges (region : RegionPart) (outs : List ℕ) (receipts : List Receipt) (c : ℕ) (packet : Packet) : Type 0 where
  pub within : c < region.width
  pub unended : has_last (popped c receipts) ≡ false
  pub wanted : may_pop (Merger region outs) (taken_of (Merger region outs) receipts) c ≡ true
  pub order : InOrder region.rule region.width (λ d. popped d (receipts ++ Popped c packet ∷ []))

-- the work of this part may take something behind these receipts
abbrev pub MayWork : Part → List Receipt → Receipt → Type 0
MayWork (FromSource source ops outs) receipts (WasRead item) =
    MayFeed (stages_at (FromSource source ops outs) receipts) (came 0 item)
MayWork (FromLinks op ops outs) receipts (Popped i packet) =
    Feeds (stages_at (FromLinks op ops outs) receipts) i packet
MayWork (Splitter region) receipts (Popped i packet) = (i ≡ 0) × Enters region (items_in (popped 0 receipts)) packet
MayWork (Replica region channel) receipts (Popped i packet) =
    (i ≡ 0) × Comes (stages_after (map start region.ops) (items_in (popped 0 receipts))) packet
MayWork (Merger region outs) receipts (Popped i packet) = Merges region outs receipts i packet
MayWork part receipts receipt = ⊥

-- ---- what is an event

abbrev pub is_item : Packet → Bool
is_item (P.Item number item) = true
is_item (P.Pulse number) = false
is_item P.Close = false
is_item P.Cut = false

-- a packet that is popped behind these receipts is an event of the first operator of a chain, which hasn't ended
abbrev pub is_event_of : Part → List Receipt → Packet → Bool
is_event_of (FromSource source ops outs) receipts packet = false
is_event_of (FromLinks op ops outs) receipts packet =
    is_item packet && not (stage_after (start op) (item_events receipts)).over
is_event_of (Splitter region) receipts packet = false
is_event_of (Replica region channel) receipts packet = false
is_event_of (Merger region outs) receipts packet = false

-- ---- what it has taken

-- it has taken it: what it owes for it waits, and so do the tuples for its sink
pub record HasWorked {R : Type 0} (spec : R → Operator) (stands : R → List Event → Type 0) (part : Part)
    (receipts : List Receipt) (r : Receipt) (work : Work R) (fans : List Fan) (tuples tuples2 : Tuples)
    (outbox outbox2 : Outbox) : Type 0 where
  pub works : WorkAt spec stands part (receipts ++ r ∷ []) work fans tuples2
  pub owes : waits outbox2 ≡ waits outbox ++ adds part receipts r
  pub pours : sink_waits tuples2 ≡ sink_waits tuples ++ pours_more part receipts r
