-- What the links of a network carry, by what each element owes for what the links that lead to it carry.
use Rattle.std.specs.Prelude.{ℕ, ◌<◌, ◌≤◌, List, [], ◌≡◌, map}
use Rattle.spl_value.specs.declared.packet.Packet.{Packet}
use Rattle.spl_value.specs.Numbered.{merged}
use Rattle.stream_model.specs.Stream.{IsPrefix}
use Rattle.stream_model.specs.Bodies.{output}
use Rattle.stream_model.specs.Stages.{start}
use Rattle.stream_model.specs.Meaning.{Graph, Lists, Entries, Meaning, meaning}
use Rattle.stream_model.specs.declared.outgoing.Outgoing.{Outgoing}
use Rattle.stream_model.specs.Sending.{on_output, outgoing, replies}
use Rattle.network_model.specs.Packets.{items_in, without_cut}
use Rattle.network_model.specs.Networks.{Part, FromSource, FromLinks, Splitter, Replica, Merger, inputs, Net}
use Rattle.network_model.specs.Owed.{region_splits, send_all}
use Rattle.network_model.specs.Joined.{InProgress, NetworkLists, owed_on, sent_on, Settled, taken_from}
use Rattle.network_model.specs.Wiring.{IsWired}
use Rattle.network_model.specs.Flow.{expects, flow, flows, IsUnder}
use Rattle.network_laws.specs.RegionStreams.{RegionsHold, RegionsMeet}

-- what an element owes for the packets at its inputs; a chain for its events in the meaning
abbrev pub owes_for : Lists → Meaning → Part → (ℕ → List Packet) → List Outgoing
owes_for rows m (FromSource source ops outs) taken = flows rows m (FromSource source ops outs)
owes_for rows m (FromLinks op ops outs) taken = flows rows m (FromLinks op ops outs)
owes_for rows m (Splitter region) taken = region_splits region 0 (items_in (taken 0))
owes_for rows m (Replica region channel) taken = map (outgoing 0) (replies (map start region.ops) (taken 0))
owes_for rows m (Merger region outs) taken = send_all outs (map (output 0) (merged region.rule region.width taken))

-- each link carries what its sender owes on it, where every chain has taken its events in the meaning, and every splitter,
-- replica and merger all that the links to its inputs carry
pub record AreCarried (net : Net) (rows : Lists) (m : Meaning) (carries : ℕ → List Packet) (enters : ℕ → ℕ → List Packet)
    : Type 0 where
  pub sent : (l : ℕ) → l < net.links
      → carries l ≡ on_output (net.link l).output (owes_for rows m (net.part (net.link l).from) (enters (net.link l).from))
  pub taken : (l : ℕ) → l < net.links → enters (net.link l).to (net.link l).input ≡ carries l
  pub no_others : (e i : ℕ) → e < net.size → inputs (net.part e) ≤ i → enters e i ≡ []

-- there are such lists for every network that runs a graph
abbrev pub CarriedThere : Type 0
CarriedThere = (g : Graph) (net : Net) (rows : Lists) (m : Meaning) → IsWired g net
    → (carries : ℕ → List Packet) × (enters : ℕ → ℕ → List Packet) × AreCarried net rows m carries enters

-- and no others
abbrev pub CarriedOnce : Type 0
CarriedOnce = (g : Graph) (net : Net) (rows : Lists) (m : Meaning) (carries others : ℕ → List Packet)
    (enters other_enters : ℕ → ℕ → List Packet) → IsWired g net → AreCarried net rows m carries enters
    → AreCarried net rows m others other_enters → (l : ℕ) → l < net.links → carries l ≡ others l

-- it is the flow of each link where each merger gives all of its region's stream, as it does in settled lists
abbrev pub FlowsCarried : Type 0
FlowsCarried = (g : Graph) (net : Net) (rows : Lists) (entries : Entries) → IsWired g net
    → RegionsMeet net (meaning g rows entries)
    → AreCarried net rows (meaning g rows entries) (flow net rows (meaning g rows entries))
    (λ e i. expects (meaning g rows entries) (net.part e) i)

-- and a front of the flow in any case
abbrev pub CarriedFront : Type 0
CarriedFront = (g : Graph) (net : Net) (lists : NetworkLists) (rows : Lists) (entries : Entries)
    (carries : ℕ → List Packet) (enters : ℕ → ℕ → List Packet) → IsWired g net
    → RegionsHold net (meaning g rows entries) → IsUnder net lists rows entries
    → AreCarried net rows (meaning g rows entries) carries enters → (l : ℕ) → l < net.links
    → IsPrefix (carries l) (flow net rows (meaning g rows entries) l)

-- At any moment, what went over a link is a front of this, but for `Cut`, and so is what its sender owes on it.
abbrev pub CarriedProgress : Type 0
CarriedProgress = (g : Graph) (net : Net) (lists : NetworkLists) (rows : Lists) (entries : Entries)
    (carries : ℕ → List Packet) (enters : ℕ → ℕ → List Packet) → IsWired g net
    → RegionsHold net (meaning g rows entries) → InProgress net lists → IsUnder net lists rows entries
    → AreCarried net rows (meaning g rows entries) carries enters → (l : ℕ) → l < net.links
    → IsPrefix (without_cut (sent_on net lists l)) (carries l) × IsPrefix (owed_on net lists l) (carries l)

-- In settled lists it is all of that.
abbrev pub SettledCarried : Type 0
SettledCarried = (g : Graph) (net : Net) (lists : NetworkLists) (rows : Lists) (entries : Entries)
    (carries : ℕ → List Packet) (enters : ℕ → ℕ → List Packet) → IsWired g net
    → RegionsHold net (meaning g rows entries) → Settled net lists → IsUnder net lists rows entries
    → AreCarried net rows (meaning g rows entries) carries enters → (l : ℕ) → l < net.links
    → (sent_on net lists l ≡ carries l) × (taken_from net lists l ≡ carries l)
