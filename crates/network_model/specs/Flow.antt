-- What the links of a network carry in the meaning of a graph.
use Rattle.std.specs.Prelude.{ℕ, zero, suc, ◌<◌, nat_lt, true, List, [], ◌≡◌, map, if◌then◌else◌}
use Rattle.spl_value.specs.declared.packet.Packet.{Packet}
use Rattle.spl_value.specs.Numbered.{merged}
use Rattle.stream_model.specs.Stream.{IsPrefix}
use Rattle.stream_model.specs.Bodies.{output}
use Rattle.stream_model.specs.Operators.{connections}
use Rattle.stream_model.specs.Arrivals.{has_several}
use Rattle.stream_model.specs.Stages.{start, gives_all}
use Rattle.stream_model.specs.Meaning.{Lists, Entries, Meaning, lists_at}
use Rattle.stream_model.specs.declared.outgoing.Outgoing.{Outgoing}
use Rattle.stream_model.specs.Sending.{outgoing, on_output}
use Rattle.network_model.specs.Packets.{is_stream, packets_of, besides_close}
use Rattle.network_model.specs.Networks.{RegionPart, Part, FromSource, FromLinks, Splitter, Replica, Merger, Net}
use Rattle.network_model.specs.Receipts.{Taken}
use Rattle.stream_model.specs.Chains.{passed}
use Rattle.network_model.specs.Owed.{send_all, region_splits, replica_owes}
use Rattle.network_model.specs.Joined.{NetworkLists}

-- what the merger of a region takes on each channel below the width, where the splitter has taken all of the stream that
-- enters the region, and each replica all that the splitter sends to it
abbrev pub channel_flow : RegionPart → Meaning → ℕ → List Packet
channel_flow region m c = if nat_lt c region.width then replica_owes region (m.streams region.entry) c else []

-- What an element owes where every chain has taken its events in the meaning, and the elements of every region have taken
-- what the whole stream that enters it sends through the region. Under records that aren't whole the merger of a region may
-- give no more than a front of its stream; a region that reads this merger is taken to have the stream all the same.
abbrev pub flows : Lists → Meaning → Part → List Outgoing
flows rows m (FromSource source ops outs) = send_all outs (passed (map start ops) (map (output 0) (rows source.number)))
flows rows m (FromLinks op ops outs) =
    send_all outs (passed (map start ops) (gives_all (start op) (m.events op.number)))
flows rows m (Splitter region) = region_splits region 0 (m.streams region.entry)
flows rows m (Replica region channel) = map (outgoing 0) (replica_owes region (m.streams region.entry) channel)
flows rows m (Merger region outs) =
    send_all outs (map (output 0) (merged region.rule region.width (channel_flow region m)))

-- what an element has taken then at each input
abbrev pub expects : Meaning → Part → ℕ → List Packet
expects m (FromSource source ops outs) i = []
expects m (FromLinks op ops outs) i = packets_of (lists_at m.streams (connections op) i)
expects m (Splitter region) zero = packets_of (m.streams region.entry)
expects m (Splitter region) (suc i) = []
expects m (Replica region channel) zero = on_output channel (region_splits region 0 (m.streams region.entry))
expects m (Replica region channel) (suc i) = []
expects m (Merger region outs) i = channel_flow region m i

-- what a link carries: what its sender owes on it then
abbrev pub flow : Net → Lists → Meaning → ℕ → List Packet
flow net rows m l = on_output (net.link l).output (flows rows m (net.part (net.link l).from))

-- the number of packets besides `Close` that a link carries
abbrev pub carried : Net → Lists → Meaning → ℕ → ℕ
carried net rows m l = besides_close (flow net rows m l)

-- The rows of each source in the meaning begin with the items that the source has read. The record in the meaning of an
-- operator with several connections, which begins a chain, is that of the chain. An operator with a single connection has
-- a record in the network alone, and the meaning doesn't look at it.
abbrev pub IsUnderAt : Part → Taken → Lists → Entries → Type 0
IsUnderAt (FromSource source ops outs) t rows entries =
    IsPrefix t.items (rows source.number) × (is_stream (rows source.number) ≡ true)
IsUnderAt (FromLinks op ops outs) t rows entries = has_several (connections op) ≡ true → t.entries ≡ entries op.number
IsUnderAt (Splitter region) t rows entries = Unit {0}
IsUnderAt (Replica region channel) t rows entries = Unit {0}
IsUnderAt (Merger region outs) t rows entries = Unit {0}

abbrev pub IsUnder : Net → NetworkLists → Lists → Entries → Type 0
IsUnder net lists rows entries = (e : ℕ) → e < net.size → IsUnderAt (net.part e) (lists.taken e) rows entries
