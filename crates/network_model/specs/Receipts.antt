-- What an element takes, and what it has taken.
use Rattle.std.specs.Prelude.{ℕ, ◌==◌, List, [], ◌∷◌, if◌then◌else◌}
use Rattle.spl_value.specs.declared.item.Item.{Item}
use Rattle.spl_value.specs.declared.packet.Packet.{Packet}
use Rattle.spl_value.specs.declared.packet.Packet.TheVariants as P
use Rattle.stream_model.specs.Stream.{Event, came}

-- a packet at an input, or an item of its source
pub data Receipt : Type 0 where
  Popped : (input : ℕ) (packet : Packet) → Receipt
  WasRead : (item : Item) → Receipt

-- the packets at an input
abbrev pub popped : ℕ → List Receipt → List Packet
popped i [] = []
popped i (Popped j packet ∷ receipts) = if j == i then packet ∷ popped i receipts else popped i receipts
popped i (WasRead item ∷ receipts) = popped i receipts

-- the items of the source
abbrev pub read_in : List Receipt → List Item
read_in [] = []
read_in (Popped j packet ∷ receipts) = read_in receipts
read_in (WasRead item ∷ receipts) = item ∷ read_in receipts

-- an event of a packet that is an item, before others
abbrev pub event_first : ℕ → Packet → List Event → List Event
event_first i (P.Item number item) events = came i item ∷ events
event_first i (P.Pulse number) events = events
event_first i P.Close events = events
event_first i P.Cut events = events

-- the items at all inputs, in the order in which they were taken
abbrev pub item_events : List Receipt → List Event
item_events [] = []
item_events (Popped i packet ∷ receipts) = event_first i packet (item_events receipts)
item_events (WasRead item ∷ receipts) = item_events receipts

-- what an element has taken: the packets at each input and the items of its source; and the record of a chain that reads
-- links, which has the input of each item that the chain's first operator took, in the order of taking
pub record Taken : Type 0 where
  pub packets : ℕ → List Packet
  pub items : List Item
  pub entries : List ℕ
