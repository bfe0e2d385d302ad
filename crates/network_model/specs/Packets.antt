-- Packets on a link, and what a stream is there.
use Rattle.std.specs.Prelude.{ℕ, Bool, true, not, List, [], ◌∷◌, map, filter, length, if◌then◌else◌}
use Rattle.std.specs.List.{list_any}
use Rattle.spl_value.specs.declared.item.Item.{Item}
use Rattle.spl_value.specs.declared.packet.Packet.{Packet}
use Rattle.spl_value.specs.declared.packet.Packet.TheVariants as P
use Rattle.spl_value.specs.Numbered.{items_of, is_last, is_close, is_cut, closes}
use Rattle.stream_model.specs.Stream.{is_empty}

-- the items of packets
abbrev pub items_in : List Packet → List Item
items_in packets = map (λ p. p.1) (items_of packets)

-- `Close` or `Cut` is among them
abbrev pub has_last : List Packet → Bool
has_last packets = list_any is_last packets

-- all packets but `Cut`
abbrev pub without_cut : List Packet → List Packet
without_cut packets = filter (λ p. not (is_cut p)) packets

-- no item closes but the last, where one does
abbrev pub is_stream : List Item → Bool
is_stream [] = true
is_stream (x ∷ items) = if closes x then is_empty items else is_stream items

-- a stream on a link outside regions: its items, under the number 0, and `Close` behind the one that closes it
abbrev pub packets_of : List Item → List Packet
packets_of [] = []
packets_of (x ∷ items) = P.Item 0 x ∷ (if closes x then P.Close ∷ packets_of items else packets_of items)

-- the number of packets besides `Close`
abbrev pub besides_close : List Packet → ℕ
besides_close packets = length (filter (λ p. not (is_close p)) packets)
