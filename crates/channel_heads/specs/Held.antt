-- What a merger holds: at most one head for each channel, each channel's bound, and whether it has ended.
use Rattle.std.specs.Prelude.{◌≡◌, ◌<◌, ◌≤◌, ◌⊎◌, ℕ, ◌+◌, ◌*◌, ◌&&◌, ◌||◌, not, nat_lt, Bool, true, false, List, [], ◌∷◌, ◌++◌, length, map, fold, min, replicate, slice_get, slice_set, Option, Some, None, is_none, unwrap_or, if◌then◌else◌}
use Rattle.spl_value.specs.declared.item.Item.{Item}
use Rattle.spl_value.specs.declared.packet.Packet.{Packet}
use Rattle.spl_value.specs.declared.packet.Packet.TheVariants as P
use Rattle.spl_value.specs.Numbered.{closes, with_packet, Rule, ByTurns, ByNumbers, ByPulses}

pub record Held : Type 0 where
  -- the item that each channel holds, under its number
  pub heads : List (Option (ℕ × Item))
  -- the number of each channel's last item or pulse, and 0 at first
  pub bounds : List ℕ
  -- which channels have taken `Close` or `Cut`
  pub done : List Bool
  -- a final marker or a fault was given
  pub over : Bool
  -- `Cut` was taken, and no final marker or fault had been given before
  pub cut : Bool

abbrev pub new_held : ℕ → Held
new_held width = record { heads = replicate width None; bounds = replicate width 0; done = replicate width false; over = false; cut = false }

abbrev pub width_of : Held → ℕ
width_of h = length h.heads

abbrev pub is_merging : Held → Bool
is_merging h = not h.over && not h.cut

abbrev pub head_at : Held → ℕ → Option (ℕ × Item)
head_at h c = unwrap_or (slice_get h.heads c) None

abbrev pub bound_at : Held → ℕ → ℕ
bound_at h c = unwrap_or (slice_get h.bounds c) 0

abbrev pub is_done : Held → ℕ → Bool
is_done h c = unwrap_or (slice_get h.done c) true

-- the channel has taken neither `Close` nor `Cut`, and holds no head
abbrev pub wants : Held → ℕ → Bool
wants h c = not (is_done h c) && is_none (head_at h c)

-- What the calls do

abbrev pub no_heads : List (Option (ℕ × Item)) → List (Option (ℕ × Item))
no_heads heads = map (λ _. None) heads

-- a packet is taken on a channel: an item becomes its head, or is dropped where the merger has ended
abbrev pub takes : ℕ → Packet → Held → Held
takes c (P.Item n x) h = record h { heads = if is_merging h then slice_set h.heads c (Some (n, x)) else h.heads; bounds = slice_set h.bounds c n }
takes c (P.Pulse n) h = record h { bounds = slice_set h.bounds c n }
takes c P.Close h = record h { done = slice_set h.done c true }
takes c P.Cut h = record h { heads = no_heads h.heads; done = slice_set h.done c true; cut = h.cut || not h.over }

-- the head of a channel is given
abbrev pub gives_head : ℕ → Item → Held → Held
gives_head c x h = record h { heads = if closes x then no_heads (slice_set h.heads c None) else slice_set h.heads c None; over = h.over || closes x }

-- Which head is given

-- a channel from which items of this number may still come: it isn't closed, holds no head, and its bound is smaller
abbrev pub is_waiting : Held → ℕ → ℕ → Bool
is_waiting h n c = wants h c && nat_lt (bound_at h c) n

-- the least number of the heads
abbrev pub least_with : Option ℕ → Option (ℕ × Item) → Option ℕ
least_with least None = least
least_with None (Some p) = Some p.0
least_with (Some m) (Some p) = Some (min m p.0)

abbrev pub least_of : List (Option (ℕ × Item)) → Option ℕ
least_of heads = fold least_with None heads

-- no head has a smaller number
abbrev pub IsLeast : Held → ℕ → Type 0
IsLeast h n = (c m : ℕ) (x : Item) → head_at h c ≡ Some (m, x) → n ≤ m

-- after `count` items were given, the item of number `n` at the head of channel `c` is the next
abbrev pub IsNext : Rule → ℕ → ℕ → Held → ℕ → ℕ → Type 0
IsNext ByTurns width count h c n = (rounds : ℕ) × (count ≡ rounds * width + c)
IsNext ByNumbers width count h c n = n ≡ count
IsNext ByPulses width count h c n = IsLeast h n × ((d : ℕ) → d < width → is_waiting h n d ≡ false)

-- after `count` items were given, no head is the next
abbrev pub IsBlocked : Rule → ℕ → ℕ → Held → Type 0
IsBlocked ByTurns width count h = (c rounds : ℕ) × (c < width) × (count ≡ rounds * width + c) × (head_at h c ≡ None)
IsBlocked ByNumbers width count h = (c n : ℕ) (x : Item) → head_at h c ≡ Some (n, x) → n ≡ count → ⊥
IsBlocked ByPulses width count h = ((c : ℕ) → c < width → head_at h c ≡ None)
    ⊎ ((d : ℕ) × (d < width) × ((c n : ℕ) (x : Item) → head_at h c ≡ Some (n, x) → is_waiting h n d ≡ true))

-- what a new merger of `width` channels holds after calls that took these packets and gave these items
pub data MergerHolds (rule : Rule) (width : ℕ) : Held → (ℕ → List Packet) → List Item → Type 0 where
  New : 0 < width → MergerHolds rule width (new_held width) (λ c. []) []
  Took : {h : Held} {taken : ℕ → List Packet} {given : List Item} (c : ℕ) (packet : Packet) → MergerHolds rule width h taken given
      → c < width → wants h c ≡ true → MergerHolds rule width (takes c packet h) (with_packet taken c packet) given
  Gave : {h : Held} {taken : ℕ → List Packet} {given : List Item} (c n : ℕ) (x : Item) → MergerHolds rule width h taken given
      → c < width → head_at h c ≡ Some (n, x) → IsNext rule width (length given) h c n → MergerHolds rule width (gives_head c x h) taken (given ++ x ∷ [])
