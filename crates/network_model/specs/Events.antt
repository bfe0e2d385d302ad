-- What happens in a network: events, and which elements were cut, and for what there was no memory.
use Rattle.std.specs.Prelude.{ℕ, List, [], ◌∷◌}
use Rattle.spl_value.specs.declared.item.Item.{Item}
use Rattle.spl_value.specs.declared.packet.Packet.{Packet}

-- an event: an element reads an item of its source, a packet is popped from a link, or pushed on one
pub data NetEvent : Type 0 where
  Read : (element : ℕ) (item : Item) → NetEvent
  Pop : (link : ℕ) (packet : Packet) → NetEvent
  Push : (link : ℕ) (packet : Packet) → NetEvent

-- an event, an event that takes something for which there is no memory, so that its element is cut, or a cut by itself
pub data Occurrence : Type 0 where
  Happens : (event : NetEvent) → Occurrence
  Lacks : (event : NetEvent) → Occurrence
  Cuts : (element : ℕ) → Occurrence

-- the events among them
abbrev pub events_in : List Occurrence → List NetEvent
events_in [] = []
events_in (Happens event ∷ list) = event ∷ events_in list
events_in (Lacks event ∷ list) = event ∷ events_in list
events_in (Cuts e ∷ list) = events_in list
