-- What a merger has given for packets that are in order.
use Rattle.std.specs.Prelude.{◌≡◌, ◌⊎◌, ℕ, true, false, List, length}
use Rattle.spl_value.specs.declared.item.Item.{Item}
use Rattle.spl_value.specs.declared.packet.Packet.{Packet}
use Rattle.spl_value.specs.Numbered.{Rule, InOrder, IsPrefix, merged}
use Rattle.channel_heads.specs.Held.{Held, MergerHolds, IsBlocked}

-- it is the front of the merge
abbrev pub PrefixLaw : Type 0
PrefixLaw = (rule : Rule) (width : ℕ) (h : Held) (taken : ℕ → List Packet) (given : List Item) → MergerHolds rule width h taken given
    → InOrder rule width taken → IsPrefix given (merged rule width taken)

-- and all of it where the merger wasn't cut, and a final marker or a fault was given or no head is the next
abbrev pub WholeLaw : Type 0
WholeLaw = (rule : Rule) (width : ℕ) (h : Held) (taken : ℕ → List Packet) (given : List Item) → MergerHolds rule width h taken given
    → InOrder rule width taken → h.cut ≡ false → (h.over ≡ true) ⊎ IsBlocked rule width (length given) h → given ≡ merged rule width taken
