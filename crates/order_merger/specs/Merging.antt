-- What a merger by turns and one by numbers hold, and for which packets and items they stand.
use Rattle.std.specs.Prelude.{◌≡◌, ℕ, ◌+◌, ◌*◌, List, length}
use Rattle.spl_value.specs.declared.item.Item.{Item}
use Rattle.spl_value.specs.declared.packet.Packet.{Packet}
use Rattle.spl_value.specs.Numbered.{ByTurns, ByNumbers}
use Rattle.channel_heads.specs.Held.{Held, MergerHolds, new_held}

pub record Turning : Type 0 where
  pub held : Held
  -- the channel whose turn it is
  pub turn : ℕ

abbrev pub new_turning : ℕ → Turning
new_turning width = record { held = new_held width; turn = 0 }

-- a merger by turns of `width` channels that took these packets and gave these items
pub record TurnStands (width : ℕ) (m : Turning) (taken : ℕ → List Packet) (given : List Item) : Type 0 where
  pub held : MergerHolds ByTurns width m.held taken given
  pub rounds : ℕ
  pub turn : length given ≡ rounds * width + m.turn

pub record Numbering : Type 0 where
  pub held : Held
  -- the number of the next item
  pub next : ℕ

abbrev pub new_numbering : ℕ → Numbering
new_numbering width = record { held = new_held width; next = 0 }

-- a merger by numbers of `width` channels that took these packets and gave these items
pub record NumberStands (width : ℕ) (m : Numbering) (taken : ℕ → List Packet) (given : List Item) : Type 0 where
  pub held : MergerHolds ByNumbers width m.held taken given
  pub next : length given ≡ m.next
