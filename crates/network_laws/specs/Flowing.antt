-- When what the links of a network carry in a meaning is what the elements at both ends say.
use Rattle.std.specs.Prelude.{ℕ, ◌<◌, List, [], ◌∷◌, map, ◌≡◌}
use Rattle.spl_value.specs.declared.item.Item.{Item}
use Rattle.stream_model.specs.Stream.{IsPrefix}
use Rattle.stream_model.specs.Operators.{connections}
use Rattle.stream_model.specs.Meaning.{Lists, Entries, Meaning}
use Rattle.stream_model.specs.Sending.{on_output}
use Rattle.network_model.specs.Packets.{without_cut}
use Rattle.network_model.specs.Networks.{Part, FromSource, FromLinks, Splitter, Replica, Merger, inputs, outputs, Net}
use Rattle.network_model.specs.Receipts.{Taken}
use Rattle.network_model.specs.Owed.{owed, Binds}
use Rattle.network_model.specs.Events.{Occurrence}
use Rattle.network_model.specs.States.{reached}
use Rattle.network_model.specs.Legal.{IsLegal, AllDone, Clean}
use Rattle.network_model.specs.Joined.{NetworkLists, Joined, Settled, InProgress, lists_of, sent_on, taken_from}
use Rattle.network_model.specs.Wiring.{Fed}
use Rattle.network_model.specs.Flow.{flows, flow, expects, IsUnder}
use Rattle.network_laws.specs.Shaped.{IsNet}

-- a record for one connection names it for each item
abbrev pub entries_for : List ℕ → Lists → List ℕ → List ℕ
entries_for [] streams entries = entries
entries_for (s ∷ []) streams entries = map (λ (x : Item). 0) (streams s)
entries_for (s ∷ t ∷ ss) streams entries = entries

-- all that a part takes in the meaning, where `t` is what it has taken
abbrev pub full : Meaning → Lists → Entries → Part → Taken → Taken
full m rows entries (FromSource source ops outs) t =
    record { packets = t.packets; items = rows source.number; entries = t.entries }
full m rows entries (FromLinks op ops outs) t =
    record {
      packets = expects m (FromLinks op ops outs);
      items = t.items;
      entries = entries_for (connections op) m.streams (entries op.number);
    }
full m rows entries (Splitter region) t =
    record { packets = expects m (Splitter region); items = t.items; entries = t.entries }
full m rows entries (Replica region channel) t =
    record { packets = expects m (Replica region channel); items = t.items; entries = t.entries }
full m rows entries (Merger region outs) t =
    record { packets = expects m (Merger region outs); items = t.items; entries = t.entries }

pub record IsFlowing (net : Net) (m : Meaning) (rows : Lists) (entries : Entries) : Type 0 where
  pub is_net : IsNet net
  pub fed : (e i : ℕ) → e < net.size → i < inputs (net.part e) → Fed net e i
  -- a link carries a front of what is owed at its end
  pub meets : (l : ℕ) → l < net.links
      → IsPrefix (without_cut (flow net rows m l))
      (without_cut (expects m (net.part (net.link l).to) (net.link l).input))
  -- and all that an element takes binds it, and is that for which it owes its flow
  pub binds : (e : ℕ) (t : Taken) → e < net.size → Binds (net.part e) (full m rows entries (net.part e) t)
  pub owes : (e : ℕ) (t : Taken) (o : ℕ) → e < net.size → o < outputs (net.part e)
      → on_output o (owed (net.part e) (full m rows entries (net.part e) t)) ≡ on_output o (flows rows m (net.part e))

-- then at any moment what went over a link is a front of its flow, but for `Cut`
abbrev pub ProgressFlowLaw : Type 0
ProgressFlowLaw = (net : Net) (m : Meaning) (rows : Lists) (entries : Entries) (lists : NetworkLists)
    → IsFlowing net m rows entries → InProgress net lists → IsUnder net lists rows entries
    → (l : ℕ) → l < net.links
    → IsPrefix (without_cut (sent_on net lists l)) (flow net rows m l)

-- and in settled lists all of it
abbrev pub SettledFlowLaw : Type 0
SettledFlowLaw = (net : Net) (m : Meaning) (rows : Lists) (entries : Entries) (lists : NetworkLists)
    → IsFlowing net m rows entries → Settled net lists → IsUnder net lists rows entries
    → (l : ℕ) → l < net.links
    → (sent_on net lists l ≡ flow net rows m l) × (taken_from net lists l ≡ flow net rows m l)

-- joined lists are at a moment
abbrev pub JoinedAreInProgress : Type 0
JoinedAreInProgress = (net : Net) (lists : NetworkLists) → Joined net lists → InProgress net lists

-- so are those of a legal list of events
abbrev pub LegalAreInProgress : Type 0
LegalAreInProgress = (net : Net) (list : List Occurrence) → IsNet net → IsLegal net list
    → InProgress net (lists_of net (reached net list))

-- they are joined where every element is done, and settled where none was cut
abbrev pub LegalJoins : Type 0
LegalJoins = (net : Net) (m : Meaning) (rows : Lists) (entries : Entries) (list : List Occurrence)
    → IsFlowing net m rows entries → IsLegal net list
    → IsUnder net (lists_of net (reached net list)) rows entries → AllDone net (reached net list)
    → Joined net (lists_of net (reached net list))
    × (Clean net (reached net list) → Settled net (lists_of net (reached net list)))
