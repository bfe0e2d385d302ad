-- What an element notes of the packets that it takes from its inputs.
use Rattle.std.specs.Prelude.{◌≡◌, ◌==◌, ℕ, Bool, true, false, List, [], ◌∷◌, ◌||◌, ◌&&◌, not, nat_le, length, slice_get, Some, if◌then◌else◌}
use Rattle.spl_value.specs.declared.packet.Packet.{Packet}
use Rattle.spl_value.specs.declared.packet.Packet.TheVariants as P
use Rattle.spl_value.specs.declared.types.Named.{Named}
use Rattle.spl_value.specs.declared.types.SplType.{SplType}
use Rattle.spl_value.specs.Numbered.{closes, item_fits}
use Rattle.elements.specs.declared.input.Input.{Input}

abbrev pub noted : Input → Packet → Input
noted i (P.Item number item) = record { low = number; closed = i.closed || closes item; ended = i.ended }
noted i (P.Pulse number) = record { low = number; closed = i.closed; ended = i.ended }
noted i P.Close = record { low = i.low; closed = i.closed; ended = true }
noted i P.Cut = record { low = i.low; closed = i.closed; ended = true }

-- after these packets
abbrev pub noted_all : Input → List Packet → Input
noted_all i [] = i
noted_all i (p ∷ ps) = noted_all (noted i p) ps

abbrev pub new_input : Input
new_input = record { low = 0; closed = false; ended = false }

-- of an input with these attributes, a packet is proper behind those that were taken
abbrev pub follows : List (Named SplType) → Input → Packet → Bool
follows schema i (P.Item number item) =
    not i.ended && (nat_le i.low number && (not i.closed && item_fits schema item))
follows schema i (P.Pulse number) = not i.ended && nat_le i.low number
follows schema i P.Close = not i.ended
follows schema i P.Cut = not i.ended

-- a packet is taken from one of them
pub record IsNoted (at : ℕ) (packet : Packet) (old new : List Input) : Type 0 where
  pub count : length new ≡ length old
  pub each : (i : ℕ) (y : Input) → slice_get new i ≡ Some y
      → (x : Input) × (slice_get old i ≡ Some x) × (y ≡ (if at == i then noted x packet else x))

-- `Close` or `Cut` was taken from each of them
abbrev pub all_ended : List Input → Bool
all_ended [] = true
all_ended (i ∷ inputs) = i.ended && all_ended inputs
