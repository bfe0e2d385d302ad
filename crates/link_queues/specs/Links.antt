-- Links and the packets that wait on them.
use Rattle.std.specs.Prelude.{ℕ, List, [], slice_get}
use Rattle.std.specs.Option.{unwrap_or}
use Rattle.spl_value.specs.declared.packet.Packet.{Packet}
use Rattle.stream_model.specs.declared.shape.ShapeLink.{ShapeLink}

-- the packets of one link, in order, and for how many there is room
pub record Waiting : Type 0 where
  pub packets : List Packet
  pub room : ℕ

-- the ends of each link and the packets that wait on it, how many may wait on each, and the number of elements
pub record Links : Type 0 where
  pub ends : List ShapeLink
  pub waiting : List (List Packet)
  pub capacity : ℕ
  pub elements : ℕ

abbrev pub waits_on : Links → ℕ → List Packet
waits_on links l = unwrap_or (slice_get links.waiting l) []
