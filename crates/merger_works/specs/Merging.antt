-- A merger of an element between two packets: it has given all that is merged of what it has taken.
use Rattle.std.specs.Prelude.{ℕ, ◌≡◌, ◌<◌, ◌^◌, false, List}
use Rattle.spl_value.specs.declared.item.Item.{Item}
use Rattle.spl_value.specs.declared.packet.Packet.{Packet}
use Rattle.spl_value.specs.Numbered.{Rule, ByTurns, ByNumbers, ByPulses, InOrder, merged}
use Rattle.channel_heads.specs.Held.{Held, MergerHolds}
use Rattle.order_merger.specs.Merging.{Turning, TurnStands, Numbering, NumberStands}
use Rattle.network_model.specs.Receipts.{Receipt, popped}
use Rattle.element_outboxes.specs.declared.fan.Fan.{Fan}
use Rattle.element_outboxes.specs.Waiting.{fans_from, outputs_in}

-- It holds `held m`, and `stands` says of a merger of its kind which packets it took and which items it gave. It has so
-- many channels, and so many connections at its output port; these are its receipts. Where the packets in them are in
-- order, it has given all that is merged of them.
pub record MergerAt {M : Type 0} (held : M → Held) (stands : ℕ → M → (ℕ → List Packet) → List Item → Type 0)
    (rule : Rule) (width : ℕ) (counts : List ℕ) (receipts : List Receipt) (m : M) (fans : List Fan) : Type 0 where
  pub given : List Item
  pub stood : stands width m (λ c. popped c receipts) given
  pub uncut : (held m).cut ≡ false
  pub all : InOrder rule width (λ c. popped c receipts) → given ≡ merged rule width (λ c. popped c receipts)
  pub fans_are : fans ≡ fans_from 0 counts
  pub few : outputs_in counts < 2 ^ 32

-- by turns
abbrev pub TurnsAt : ℕ → List ℕ → List Receipt → Turning → List Fan → Type 0
TurnsAt width counts receipts m fans =
    MergerAt (λ (m : Turning). m.held) TurnStands ByTurns width counts receipts m fans

-- by numbers
abbrev pub NumbersAt : ℕ → List ℕ → List Receipt → Numbering → List Fan → Type 0
NumbersAt width counts receipts m fans =
    MergerAt (λ (m : Numbering). m.held) NumberStands ByNumbers width counts receipts m fans

-- by pulses
abbrev pub PulsesAt : ℕ → List ℕ → List Receipt → Held → List Fan → Type 0
PulsesAt width counts receipts m fans =
    MergerAt (λ (m : Held). m) (MergerHolds ByPulses) ByPulses width counts receipts m fans
