-- The events that are enabled behind a legal list, by number, and the list in which a draw picks each one.
use Prim.Native.Nat.{zero, suc}
use Rattle.std.specs.Prelude.{ℕ, ◌+◌, ◌%◌, ◌==◌, nat_lt, ◌&&◌, ◌||◌, not, Bool, List, [], ◌∷◌, ◌++◌, ◌≡◌, length, map, filter, if◌then◌else◌, Option, None, Some, is_some, option_map, slice_get}
use Rattle.std.specs.Option.{option_and_then, option_map_or}
use Rattle.language_model.specs.Numbering.{numbers_from}
use Rattle.spl_value.specs.declared.packet.Packet.{Packet}
use Rattle.stream_model.specs.Stream.{any_closes, is_empty}
use Rattle.stream_model.specs.Meaning.{Lists}
use Rattle.stream_model.specs.declared.outgoing.Outgoing.{Outgoing}
use Rattle.network_model.specs.Packets.{has_last}
use Rattle.network_model.specs.Networks.{Part, is_sourced, Net}
use Rattle.network_model.specs.Receipts.{popped, read_in}
use Rattle.network_model.specs.Draws.{draw, next_draw}
use Rattle.network_model.specs.Events.{NetEvent, Read, Pop, Push}
use Rattle.network_model.specs.States.{At, State, all_taken, happens_with, takes, begin, popped_from, pushed_on}
use Rattle.network_model.specs.Legal.{wants_at}

-- an event without what it takes or gives
pub data Choice : Type 0 where
  ReadAt : (element : ℕ) → Choice
  PopAt : (link : ℕ) → Choice
  PushAt : (link : ℕ) → Choice

-- an element reads
abbrev pub may_read : Part → At → Bool
may_read part a = is_empty a.outbox && (is_sourced part && (not a.cut && not (any_closes (read_in a.kept))))

-- an element pops from an input
abbrev pub may_pop : Part → At → ℕ → Bool
may_pop part a input =
    is_empty a.outbox && (not (has_last (popped input (all_taken a))) && (a.cut || wants_at part a input))

-- the front of an outbox, where it goes to this output
abbrev pub front_for : ℕ → List Outgoing → Option Packet
front_for o [] = None
front_for o (s ∷ others) = if s.output == o then Some s.packet else None

-- the event is enabled
abbrev pub may_happen : Net → State → Choice → Bool
may_happen net st (ReadAt e) = nat_lt e net.size && may_read (net.part e) (st e)
may_happen net st (PopAt l) =
    nat_lt l net.links
    && (may_pop (net.part (net.link l).to) (st (net.link l).to) (net.link l).input
    && is_some (slice_get (pushed_on net st l) (length (popped_from net st l))))
may_happen net st (PushAt l) =
    nat_lt l net.links
    && (nat_lt (length (pushed_on net st l)) (net.capacity + length (popped_from net st l))
    && is_some (front_for (net.link l).output (st (net.link l).from).outbox))

-- all events: reads by element, then pops by link, then pushes by link
abbrev pub choices : Net → List Choice
choices net =
    map ReadAt (numbers_from 0 net.size)
    ++ (map PopAt (numbers_from 0 net.links) ++ map PushAt (numbers_from 0 net.links))

-- the enabled ones, by their numbers
abbrev pub enabled_choices : Net → State → List Choice
enabled_choices net st = filter (may_happen net st) (choices net)

-- the event with what it takes or gives, where the next item of each element's source is that of its rows
abbrev pub event_at : Net → Lists → State → Choice → Option NetEvent
event_at net rows st (ReadAt e) = option_map (Read e) (slice_get (rows e) (length (read_in (st e).kept)))
event_at net rows st (PopAt l) = option_map (Pop l) (slice_get (pushed_on net st l) (length (popped_from net st l)))
event_at net rows st (PushAt l) = option_map (Push l) (front_for (net.link l).output (st (net.link l).from).outbox)

-- the enabled event that the next draw picks
abbrev pub drawn : Net → Lists → State → ℕ → Option NetEvent
drawn net rows st x =
    option_and_then (event_at net rows st)
    (slice_get (enabled_choices net st) (draw x % length (enabled_choices net st)))

-- at most n events, each the one that the next draw picks
abbrev pub picked_from : Net → Lists → State → ℕ → ℕ → List NetEvent
picked_from net rows st x zero = []
picked_from net rows st x (suc n) =
    option_map_or (λ event. event ∷ picked_from net rows (happens_with takes net st event) (next_draw x) n)
    (drawn net rows st x) []

abbrev pub picked : Net → Lists → ℕ → ℕ → List NetEvent
picked net rows x n = picked_from net rows begin x n

-- an item that is read is the next of the rows
abbrev pub IsNext : Lists → State → NetEvent → Type 0
IsNext rows st (Read e x) = slice_get (rows e) (length (read_in (st e).kept)) ≡ Some x
IsNext rows st (Pop l p) = Unit {0}
IsNext rows st (Push l p) = Unit {0}

abbrev pub choice_of : NetEvent → Choice
choice_of (Read e x) = ReadAt e
choice_of (Pop l p) = PopAt l
choice_of (Push l p) = PushAt l
