-- What a merger knows of the packets that it has taken is a front, by number, of all that its channels carry.
use Rattle.std.specs.Prelude.{◌≡◌, ◌<◌, ℕ, true, List, ◌++◌}
use Rattle.std.specs.List.{list_all}
use Rattle.spl_value.specs.declared.packet.Packet.{Packet}
use Rattle.spl_value.specs.Numbered.{InOrder, IsPrefix, Rule, by_number, is_cut, merged, stops_once, taken_items}

-- what was taken of each channel is a front of all that it carries
abbrev pub AreFronts : ℕ → (ℕ → List Packet) → (ℕ → List Packet) → Type 0
AreFronts width taken all = (c : ℕ) → c < width → IsPrefix (taken c) (all c)

-- where all is in order, so is what was taken
abbrev pub OrderLaw : Type 0
OrderLaw = (rule : Rule) (width : ℕ) (taken all : ℕ → List Packet) → InOrder rule width all
    → AreFronts width taken all → InOrder rule width taken

-- and where besides nothing stands behind `Close` or `Cut`, what is known of it is a front of all items by number
abbrev pub FrontLaw : Type 0
FrontLaw = (rule : Rule) (width : ℕ) (taken all : ℕ → List Packet) → 0 < width → InOrder rule width all
    → ((c : ℕ) → c < width → stops_once (all c) ≡ true) → AreFronts width taken all
    → IsPrefix (merged rule width taken) (by_number (taken_items width all))

-- `Cut` behind what was taken makes nothing known
abbrev pub CutLaw : Type 0
CutLaw = (rule : Rule) (width : ℕ) (taken cuts : ℕ → List Packet) → ((c : ℕ) → list_all is_cut (cuts c) ≡ true)
    → merged rule width (λ c. taken c ++ cuts c) ≡ merged rule width taken
