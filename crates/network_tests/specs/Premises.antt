-- Packets that are in order, and their merge.
use Rattle.std.specs.Prelude.{ℕ, zero, suc, List, [], ◌∷◌}
use Rattle.spl_value.specs.declared.item.Item.TheVariants.{Window, Final}
use Rattle.spl_value.specs.declared.packet.Packet.{Packet}
use Rattle.spl_value.specs.declared.packet.Packet.TheVariants as P

-- two items by turns, one on each channel
abbrev pub in_turn : ℕ → List Packet
in_turn zero = P.Item 0 Window ∷ []
in_turn (suc c) = P.Item 1 Final ∷ P.Close ∷ []

-- by pulses: the second channel is past the first two items, and not past the third
abbrev pub with_pulses : ℕ → List Packet
with_pulses zero = P.Item 0 Window ∷ P.Item 1 Window ∷ P.Item 2 Final ∷ []
with_pulses (suc c) = P.Pulse 1 ∷ []
