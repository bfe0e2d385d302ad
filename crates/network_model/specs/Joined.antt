-- The lists of a network that has come to its end, element by element and link by link, with no order between them.
use Rattle.std.specs.Prelude.{ℕ, ◌<◌, ◌≤◌, ◌==◌, Bool, true, false, List, [], ◌∷◌, ◌++◌, ◌⊎◌, ◌≡◌, length}
use Rattle.spl_value.specs.declared.packet.Packet.{Packet}
use Rattle.spl_value.specs.declared.packet.Packet.TheVariants as P
use Rattle.stream_model.specs.Stream.{is_closed, IsPrefix}
use Rattle.stream_model.specs.Inputs.{came_on}
use Rattle.stream_model.specs.Operators.{Operator, ports}
use Rattle.stream_model.specs.Stages.{start}
use Rattle.stream_model.specs.Meaning.{arrive}
use Rattle.stream_model.specs.Laws.{has_ended}
use Rattle.stream_model.specs.Records.{up_to_end}
use Rattle.stream_model.specs.parts.Records.{names_inputs, finds_items}
use Rattle.stream_model.specs.Sending.{on_output}
use Rattle.network_model.specs.Packets.{has_last, without_cut}
use Rattle.network_model.specs.Networks.{Part, FromSource, FromLinks, Splitter, Replica, Merger, inputs, outputs, is_sourced, Net}
use Rattle.network_model.specs.Receipts.{popped, read_in, Taken}
use Rattle.network_model.specs.Owed.{owed, item_lists, entries_of, Binds}
use Rattle.network_model.specs.States.{At, State, all_taken}

-- what each element took, what it pushed on each of its outputs, and whether it was cut
pub record NetworkLists : Type 0 where
  pub taken : ℕ → Taken
  pub sent : ℕ → ℕ → List Packet
  pub cut : ℕ → Bool

-- the packets that were pushed on a link, and those that were taken from it
abbrev pub sent_on : Net → NetworkLists → ℕ → List Packet
sent_on net lists l = lists.sent (net.link l).from (net.link l).output

abbrev pub taken_from : Net → NetworkLists → ℕ → List Packet
taken_from net lists l = (lists.taken (net.link l).to).packets (net.link l).input

-- what the sender of a link owes on it for its lists, as if it weren't cut
abbrev pub owed_on : Net → NetworkLists → ℕ → List Packet
owed_on net lists l = on_output (net.link l).output (owed (net.part (net.link l).from) (lists.taken (net.link l).from))

-- Each entry of the record of a chain names an input and finds an item there, and its first operator doesn't end before
-- the last one. Where the element wasn't cut, that operator ends at the last one, or the record takes all items.
pub record IsRecorded (op : Operator) (t : Taken) (cut : Bool) : Type 0 where
  pub named : names_inputs op t.entries ≡ true
  pub found : finds_items (item_lists t) t.entries ≡ true
  pub in_time : up_to_end (start op) (arrive (item_lists t) t.entries) ≡ arrive (item_lists t) t.entries
  pub all : cut ≡ false
      → (has_ended op (arrive (item_lists t) t.entries) ≡ true)
      ⊎ ((i : ℕ) → i < length (ports op) → came_on (λ j. j == i) (arrive (item_lists t) t.entries) ≡ item_lists t i)

-- only a chain that reads links has a record
abbrev pub Recorded : Part → Taken → Bool → Type 0
Recorded (FromSource source ops outs) t cut = t.entries ≡ []
Recorded (FromLinks op ops outs) t cut = IsRecorded op t cut
Recorded (Splitter region) t cut = t.entries ≡ []
Recorded (Replica region channel) t cut = t.entries ≡ []
Recorded (Merger region outs) t cut = t.entries ≡ []

-- what an element that was cut pushed on an output: a front of what it owes there, and `Cut` behind it where `Close`
-- isn't in it
pub record IsCutOff (owes sent : List Packet) : Type 0 where
  pub front : List Packet
  pub is_front : IsPrefix front owes
  pub is_sent : ((has_last front ≡ true) × (sent ≡ front)) ⊎ ((has_last front ≡ false) × (sent ≡ front ++ P.Cut ∷ []))

-- an element that is done
pub record IsJoined (part : Part) (t : Taken) (sent : ℕ → List Packet) (cut : Bool) : Type 0 where
  pub inputs_end : (i : ℕ) → i < inputs part → has_last (t.packets i) ≡ true
  pub no_others : (i : ℕ) → inputs part ≤ i → t.packets i ≡ []
  pub source_ends : is_sourced part ≡ true → (cut ≡ true) ⊎ (is_closed t.items ≡ true)
  pub recorded : Recorded part t cut
  pub all_sent : cut ≡ false → Binds part t → (o : ℕ) → o < outputs part → sent o ≡ on_output o (owed part t)
  pub front_sent : cut ≡ true → Binds part t → (o : ℕ) → o < outputs part
      → IsCutOff (on_output o (owed part t)) (sent o)

pub record Joined (net : Net) (lists : NetworkLists) : Type 0 where
  pub links : (l : ℕ) → l < net.links
      → taken_from net lists l ≡ sent_on net lists l
  pub elements : (e : ℕ) → e < net.size → IsJoined (net.part e) (lists.taken e) (lists.sent e) (lists.cut e)

-- and no element was cut
pub record Settled (net : Net) (lists : NetworkLists) : Type 0 where
  pub joined : Joined net lists
  pub whole : (e : ℕ) → e < net.size → lists.cut e ≡ false

-- ---- lists at any moment

-- an element that is still at work: what it has sent on each output is a front of what it owes there, but for `Cut`
pub record IsInProgress (part : Part) (t : Taken) (sent : ℕ → List Packet) : Type 0 where
  pub no_others : (i : ℕ) → inputs part ≤ i → t.packets i ≡ []
  pub recorded : Recorded part t true
  pub sends : Binds part t → (o : ℕ) → o < outputs part
      → IsPrefix (without_cut (sent o)) (without_cut (on_output o (owed part t)))

-- and what was popped from a link is a front of what was pushed on it
pub record InProgress (net : Net) (lists : NetworkLists) : Type 0 where
  pub links : (l : ℕ) → l < net.links
      → IsPrefix (taken_from net lists l) (sent_on net lists l)
  pub elements : (e : ℕ) → e < net.size → IsInProgress (net.part e) (lists.taken e) (lists.sent e)

-- the lists of a state
abbrev pub taken_at : Part → At → Taken
taken_at part a =
    record { packets = λ i. popped i (all_taken a); items = read_in (all_taken a); entries = entries_of part a.kept }

abbrev pub lists_of : Net → State → NetworkLists
lists_of net st =
    record { taken = λ e. taken_at (net.part e) (st e); sent = λ e o. on_output o (st e).pushed; cut = λ e. (st e).cut }
