-- Laws of a merger of an element: a new one has taken nothing, and which packets it wants.
use Rattle.std.specs.Prelude.{ℕ, ◌≡◌, ◌<◌, ◌^◌, ◌&&◌, not, List, []}
use Rattle.spl_value.specs.declared.item.Item.{Item}
use Rattle.spl_value.specs.declared.packet.Packet.{Packet}
use Rattle.spl_value.specs.Numbered.{Rule, InOrder, ByTurns, ByNumbers, ByPulses}
use Rattle.channel_heads.specs.Held.{Held, MergerHolds, new_held, wants, width_of}
use Rattle.order_merger.specs.Merging.{Turning, TurnStands, new_turning, Numbering, NumberStands, new_numbering}
use Rattle.network_model.specs.Packets.{has_last}
use Rattle.network_model.specs.Networks.{RegionPart, Merger}
use Rattle.network_model.specs.Receipts.{Receipt, popped}
use Rattle.network_model.specs.Owed.{taken_of}
use Rattle.network_model.specs.Legal.{wants as may_pop}
use Rattle.element_outboxes.specs.declared.fan.Fan.{Fan}
use Rattle.element_outboxes.specs.Waiting.{fans_from, outputs_in}
use Rattle.merger_works.specs.Merging.{MergerAt, TurnsAt, NumbersAt, PulsesAt}

-- a new merger of some channels has taken nothing
abbrev pub BeginLaw : Type 0
BeginLaw = (width : ℕ) (counts : List ℕ) → 0 < width → outputs_in counts < 2 ^ 32
    → TurnsAt width counts [] (new_turning width) (fans_from 0 counts)
    × NumbersAt width counts [] (new_numbering width) (fans_from 0 counts)
    × PulsesAt width counts [] (new_held width) (fans_from 0 counts)

-- Where the packets of a merger are in order, it wants one on a channel exactly where it took neither `Close` nor `Cut`
-- there and the network lets it pop: its stream is closed, or each item of the channel stands in it.
abbrev pub WantsAt : {M : Type 0} → (M → Held) → (ℕ → M → (ℕ → List Packet) → List Item → Type 0) → Rule → Type 0
WantsAt {M = M} held stands rule = (region : RegionPart) (outs counts : List ℕ) (receipts : List Receipt) (m : M)
    (fans : List Fan) (channel : ℕ) → region.rule ≡ rule
    → MergerAt held stands rule region.width counts receipts m fans
    → InOrder region.rule region.width (λ c. popped c receipts) → channel < region.width
    → wants (held m) channel
    ≡ (not (has_last (popped channel receipts))
    && may_pop (Merger region outs) (taken_of (Merger region outs) receipts) channel)

-- of each kind
abbrev pub WantsLaw : Type 0
WantsLaw = WantsAt (λ (m : Turning). m.held) TurnStands ByTurns
    × WantsAt (λ (m : Numbering). m.held) NumberStands ByNumbers
    × WantsAt (λ (m : Held). m) (MergerHolds ByPulses) ByPulses

-- it holds at most one head for each of its channels
abbrev pub WidthAt : {M : Type 0} → (M → Held) → (ℕ → M → (ℕ → List Packet) → List Item → Type 0) → Rule → Type 0
WidthAt {M = M} held stands rule = (width : ℕ) (counts : List ℕ) (receipts : List Receipt) (m : M) (fans : List Fan)
    → MergerAt held stands rule width counts receipts m fans → width_of (held m) ≡ width

abbrev pub WidthLaw : Type 0
WidthLaw = WidthAt (λ (m : Turning). m.held) TurnStands ByTurns
    × WidthAt (λ (m : Numbering). m.held) NumberStands ByNumbers
    × WidthAt (λ (m : Held). m) (MergerHolds ByPulses) ByPulses
