-- Which lists of events are legal, and when an element is done. Each rule looks at one link or one element alone.
use Rattle.std.specs.Prelude.{ℕ, ◌+◌, ◌<◌, ◌^◌, ◌||◌, Bool, true, false, List, [], ◌∷◌, ◌⊎◌, ◌≡◌, length, Some, slice_get}
use Rattle.std.specs.List.{list_all}
use Rattle.spl_value.specs.declared.packet.Packet.{Packet}
use Rattle.spl_value.specs.Numbered.{items_of, known, merged}
use Rattle.stream_model.specs.Stream.{any_closes, is_closed}
use Rattle.stream_model.specs.declared.outgoing.Outgoing.{Outgoing}
use Rattle.stream_model.specs.Sending.{outgoing}
use Rattle.network_model.specs.Packets.{has_last}
use Rattle.network_model.specs.Networks.{Part, FromSource, FromLinks, Splitter, Replica, Merger, inputs, is_sourced, Net}
use Rattle.network_model.specs.Receipts.{popped, read_in, Taken}
use Rattle.network_model.specs.Owed.{taken_of}
use Rattle.network_model.specs.Events.{NetEvent, Read, Pop, Push, Occurrence, Happens, Lacks, Cuts, events_in}
use Rattle.network_model.specs.States.{At, all_taken, State, begin, after, popped_from, pushed_on}

-- a merger that isn't cut and whose stream isn't closed pops from a channel only where each item that it has popped
-- there stands in the merged stream; every other element pops from any input
abbrev pub wants : Part → Taken → ℕ → Bool
wants (FromSource source ops outs) t input = true
wants (FromLinks op ops outs) t input = true
wants (Splitter region) t input = true
wants (Replica region channel) t input = true
wants (Merger region outs) t input =
    is_closed (merged region.rule region.width t.packets)
    || list_all (λ p. known region.rule region.width t.packets p.0) (items_of (t.packets input))

abbrev pub wants_at : Part → At → ℕ → Bool
wants_at part a input = wants part (taken_of part a.kept) input

-- an element reads where it owes nothing, isn't cut and its source isn't at its end
pub record MayRead (net : Net) (st : State) (e : ℕ) : Type 0 where
  pub element : e < net.size
  pub idle : (st e).outbox ≡ []
  pub sourced : is_sourced (net.part e) ≡ true
  pub whole : (st e).cut ≡ false
  pub is_open : any_closes (read_in (st e).kept) ≡ false

-- a packet is popped where it is the first that waits on the link, and the element at the end owes nothing, took no
-- `Close` or `Cut` there, and wants it
pub record MayPop (net : Net) (st : State) (l : ℕ) (packet : Packet) : Type 0 where
  pub link : l < net.links
  pub idle : (st (net.link l).to).outbox ≡ []
  pub front : slice_get (pushed_on net st l) (length (popped_from net st l)) ≡ Some packet
  pub is_open : has_last (popped_from net st l) ≡ false
  pub wanted :
      ((st (net.link l).to).cut ≡ true)
      ⊎ (wants_at (net.part (net.link l).to) (st (net.link l).to) (net.link l).input ≡ true)

-- a packet is pushed where its element owes it first, and the link has room
pub record MayPush (net : Net) (st : State) (l : ℕ) (packet : Packet) : Type 0 where
  pub link : l < net.links
  pub others : List Outgoing
  pub first : (st (net.link l).from).outbox ≡ outgoing (net.link l).output packet ∷ others
  pub room : length (pushed_on net st l) < net.capacity + length (popped_from net st l)

-- an event is enabled
abbrev pub Enabled : Net → State → NetEvent → Type 0
Enabled net st (Read e x) = MayRead net st e
Enabled net st (Pop l p) = MayPop net st l p
Enabled net st (Push l p) = MayPush net st l p

-- it takes something
abbrev pub IsTaking : NetEvent → Type 0
IsTaking (Read e x) = Unit {0}
IsTaking (Pop l p) = Unit {0}
IsTaking (Push l p) = ⊥

abbrev pub May : Net → State → Occurrence → Type 0
May net st (Happens event) = Enabled net st event
May net st (Lacks event) = Enabled net st event × IsTaking event
May net st (Cuts e) = e < net.size

abbrev pub Legal : Net → State → List Occurrence → Type 0
Legal net st [] = Unit {0}
Legal net st (h ∷ list) = May net st h × Legal net (after net st h) list

-- a legal list of events of a network
pub record IsLegal (net : Net) (list : List Occurrence) : Type 0 where
  pub legal : Legal net begin list
  pub short : length (events_in list) < 2 ^ 61

-- ---- when an element is done

-- every input was popped to `Close` or `Cut`, its source was read to the last item or it was cut, and all that it owes
-- is pushed
pub record IsDone (part : Part) (a : At) : Type 0 where
  pub inputs_end : (i : ℕ) → i < inputs part → has_last (popped i (all_taken a)) ≡ true
  pub source_ends : is_sourced part ≡ true → (a.cut ≡ true) ⊎ (is_closed (read_in a.kept) ≡ true)
  pub pushed : a.outbox ≡ []

abbrev pub AllDone : Net → State → Type 0
AllDone net st = (e : ℕ) → e < net.size → IsDone (net.part e) (st e)

-- no element was cut
abbrev pub Clean : Net → State → Type 0
Clean net st = (e : ℕ) → e < net.size → (st e).cut ≡ false
