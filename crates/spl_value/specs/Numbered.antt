-- Lists of numbered items and of packets, one for each channel of a region, and their merge by number.
use Rattle.std.specs.Prelude.{◌≡◌, ℕ, zero, suc, ◌+◌, ◌*◌, ◌<◌, ◌≤◌, ◌==◌, ◌&&◌, nat_le, max, Bool, true, false, List, [], ◌∷◌, ◌++◌, length, map, filter, take_while, slice_get, Option, Some, None, if◌then◌else◌}
use Rattle.std.specs.List.{filter_map, flat_map, list_all, list_any}
use Rattle.spl_value.specs.declared.item.Item.{Item}
use Rattle.spl_value.specs.declared.item.Item.TheVariants.{Tuple, Window, Final, Bad}
use Rattle.spl_value.specs.declared.packet.Packet.{Packet}
use Rattle.spl_value.specs.declared.packet.Packet.TheVariants as P
use Rattle.spl_value.specs.declared.types.Named.{Named}
use Rattle.spl_value.specs.declared.types.SplType.{SplType}
use Rattle.spl_value.specs.declared.types.SplType.TheVariants as T
use Rattle.spl_value.specs.declared.value.Value.TheVariants as V
use Rattle.spl_value.specs.Values.{fits}

-- Streams

-- a final marker or a fault, which nothing follows in a stream
abbrev pub closes : Item → Bool
closes (Tuple values) = false
closes Window = false
closes Final = true
closes (Bad fault) = true

-- a list up to and with its first item that closes
abbrev pub cut : List Item → List Item
cut [] = []
cut (x ∷ xs) = x ∷ (if closes x then [] else cut xs)

-- the second list is the first with some more after it
abbrev pub IsPrefix : {A : Type 0} → List A → List A → Type 0
IsPrefix {A = A} front whole = (rest : List A) × (front ++ rest ≡ whole)

-- Items by number

-- what f gives for 0, 1, .. below n, one after another
abbrev pub below : {A : Type 0} → ℕ → (ℕ → List A) → List A
below zero f = []
below (suc n) f = below n f ++ f n

-- one more than the largest number
abbrev pub top : List (ℕ × Item) → ℕ
top [] = 0
top (p ∷ ps) = max (suc p.0) (top ps)

abbrev pub top_all : List (List (ℕ × Item)) → ℕ
top_all [] = 0
top_all (l ∷ ls) = max (top l) (top_all ls)

-- the items of a number, in their channel's order
abbrev pub of_number : ℕ → List (List (ℕ × Item)) → List (ℕ × Item)
of_number n lists = flat_map (filter (λ p. p.0 == n)) lists

-- for the numbers 0, 1, .. the items of that number
abbrev pub in_turn : List (List (ℕ × Item)) → List (ℕ × Item)
in_turn lists = below (top_all lists) (λ n. of_number n lists)

-- the items by number, up to the first that closes
abbrev pub by_number : List (List (ℕ × Item)) → List Item
by_number lists = cut (map (λ p. p.1) (in_turn lists))

-- Packets

abbrev pub item_of : Packet → Option (ℕ × Item)
item_of (P.Item number item) = Some (number, item)
item_of (P.Pulse number) = None
item_of P.Close = None
item_of P.Cut = None

-- the items of a list of packets, under their numbers
abbrev pub items_of : List Packet → List (ℕ × Item)
items_of packets = filter_map item_of packets

-- the number of an item or a pulse
abbrev pub number_of : Packet → Option ℕ
number_of (P.Item number item) = Some number
number_of (P.Pulse number) = Some number
number_of P.Close = None
number_of P.Cut = None

-- the numbers of the items and pulses, in their order
abbrev pub numbers_of : List Packet → List ℕ
numbers_of packets = filter_map number_of packets

-- `Close` or `Cut`, which nothing follows on a link
abbrev pub is_last : Packet → Bool
is_last (P.Item number item) = false
is_last (P.Pulse number) = false
is_last P.Close = true
is_last P.Cut = true

abbrev pub is_close : Packet → Bool
is_close (P.Item number item) = false
is_close (P.Pulse number) = false
is_close P.Close = true
is_close P.Cut = false

abbrev pub is_cut : Packet → Bool
is_cut (P.Item number item) = false
is_cut (P.Pulse number) = false
is_cut P.Close = false
is_cut P.Cut = true

abbrev pub is_pulse : Packet → Bool
is_pulse (P.Item number item) = false
is_pulse (P.Pulse number) = true
is_pulse P.Close = false
is_pulse P.Cut = false

-- `Close`, or an item or a pulse of this number or a larger one
abbrev pub reaches : ℕ → Packet → Bool
reaches n (P.Item number item) = nat_le n number
reaches n (P.Pulse number) = nat_le n number
reaches n P.Close = true
reaches n P.Cut = false

-- The merge

-- what the channels below the width have, in their order
abbrev pub channels_from : {A : Type 0} → ℕ → ℕ → (ℕ → A) → List A
channels_from c zero f = []
channels_from c (suc width) f = f c ∷ channels_from (suc c) width f

abbrev pub channels : {A : Type 0} → ℕ → (ℕ → A) → List A
channels width f = channels_from 0 width f

-- one packet more was taken on a channel
abbrev pub with_packet : (ℕ → List Packet) → ℕ → Packet → ℕ → List Packet
with_packet taken channel packet c = if c == channel then taken c ++ packet ∷ [] else taken c

-- the numbered items that were taken, channel by channel
abbrev pub taken_items : ℕ → (ℕ → List Packet) → List (List (ℕ × Item))
taken_items width taken = channels width (λ c. items_of (taken c))

-- how a merger knows that an item is the next
pub data Rule : Type 0 where
  ByTurns : Rule
  ByNumbers : Rule
  ByPulses : Rule

-- one of the channels has an item of this number
abbrev pub has_number : ℕ → List (List (ℕ × Item)) → Bool
has_number n lists = list_any (λ l. list_any (λ p. p.0 == n) l) lists

-- an item of each smaller number was taken
abbrev pub known_by_number : ℕ → (ℕ → List Packet) → ℕ → Bool
known_by_number width taken zero = true
known_by_number width taken (suc n) = known_by_number width taken n && has_number n (taken_items width taken)

-- the number is 0, or each channel has taken `Close` or a packet of at least that number, as the item's own has
abbrev pub known_by_pulses : ℕ → (ℕ → List Packet) → ℕ → Bool
known_by_pulses width taken zero = true
known_by_pulses width taken (suc n) = list_all (λ l. list_any (reaches (suc n)) l) (channels width taken)

-- an item of this number is known in the packets taken so far on each channel
abbrev pub known : Rule → ℕ → (ℕ → List Packet) → ℕ → Bool
known ByTurns = known_by_number
known ByNumbers = known_by_number
known ByPulses = known_by_pulses

-- the taken items by number, up to the first that isn't known and to the first that closes
abbrev pub merged : Rule → ℕ → (ℕ → List Packet) → List Item
merged rule width taken = cut (map (λ p. p.1) (take_while (λ p. known rule width taken p.0) (in_turn (taken_items width taken))))

-- Lists that are as they should be

-- the numbers never fall, from this one on
abbrev pub NeverFalls : ℕ → List ℕ → Type 0
NeverFalls low [] = Unit {0}
NeverFalls low (n ∷ ns) = (low ≤ n) × NeverFalls n ns

-- each number is larger than the one before, and the first is at least this one
abbrev pub Rises : ℕ → List ℕ → Type 0
Rises low [] = Unit {0}
Rises low (n ∷ ns) = (low ≤ n) × Rises (suc n) ns

-- nothing follows an item that closes
abbrev pub ends_once : List Item → Bool
ends_once [] = true
ends_once (x ∷ xs) = (if closes x then nat_le (length xs) 0 else true) && ends_once xs

-- nothing follows `Close` or `Cut`
abbrev pub stops_once : List Packet → Bool
stops_once [] = true
stops_once (p ∷ ps) = (if is_last p then nat_le (length ps) 0 else true) && stops_once ps

-- a tuple has values of these attributes
abbrev pub item_fits : List (Named SplType) → Item → Bool
item_fits schema (Tuple values) = fits (T.Tuple schema) (V.Tuple values)
item_fits schema Window = true
item_fits schema Final = true
item_fits schema (Bad fault) = true

-- a list of packets as a link of a stream with this schema carries it
pub record IsProper (schema : List (Named SplType)) (packets : List Packet) : Type 0 where
  pub fit : list_all (λ p. item_fits schema p.1) (items_of packets) ≡ true
  pub ends : ends_once (map (λ p. p.1) (items_of packets)) ≡ true
  pub stops : stops_once packets ≡ true
  pub falls : NeverFalls 0 (numbers_of packets)

-- the numbers never fall on a channel, and no number stands on items of two channels
pub record AreApart (width : ℕ) (taken : ℕ → List Packet) : Type 0 where
  pub falls : (c : ℕ) → c < width → NeverFalls 0 (numbers_of (taken c))
  pub apart : (n c d : ℕ) → c < width → d < width → list_any (λ p. p.0 == n) (items_of (taken c)) ≡ true
      → list_any (λ p. p.0 == n) (items_of (taken d)) ≡ true → c ≡ d

-- and there are no pulses, and the items' numbers rise on each channel
pub record AreRising (width : ℕ) (taken : ℕ → List Packet) : Type 0 where
  pub apart : AreApart width taken
  pub no_pulses : (c : ℕ) → c < width → list_any is_pulse (taken c) ≡ false
  pub rises : (c : ℕ) → c < width → Rises 0 (map (λ p. p.0) (items_of (taken c)))

-- and there are no pulses, and the items stand on the channels in turn
pub record AreInTurn (width : ℕ) (taken : ℕ → List Packet) : Type 0 where
  pub apart : AreApart width taken
  pub no_pulses : (c : ℕ) → c < width → list_any is_pulse (taken c) ≡ false
  pub turns : (c k : ℕ) (p : ℕ × Item) → c < width → slice_get (items_of (taken c)) k ≡ Some p → p.0 ≡ k * width + c

-- the packets that a merger has taken on each channel are in order
abbrev pub InOrder : Rule → ℕ → (ℕ → List Packet) → Type 0
InOrder ByTurns = AreInTurn
InOrder ByNumbers = AreRising
InOrder ByPulses = AreApart
