-- What an element owes on its outputs for what it has taken, in order.
use Prim.Native.Nat.{suc}
use Rattle.std.specs.Prelude.{ℕ, ◌≡◌, ◌<◌, ◌==◌, true, List, [], ◌∷◌, ◌++◌, map, if◌then◌else◌}
use Rattle.std.specs.List.{flat_map}
use Rattle.spl_value.specs.declared.item.Item.{Item}
use Rattle.spl_value.specs.declared.packet.Packet.{Packet}
use Rattle.spl_value.specs.declared.packet.Packet.TheVariants as P
use Rattle.spl_value.specs.Numbered.{merged, InOrder, stops_once, closes}
use Rattle.language_model.specs.declared.outs.Output.{Output}
use Rattle.stream_model.specs.Inputs.{inputs_of}
use Rattle.stream_model.specs.Bodies.{output}
use Rattle.stream_model.specs.Stages.{start, gives_all}
use Rattle.stream_model.specs.Meaning.{Lists, arrive}
use Rattle.stream_model.specs.Records.{up_to_end}
use Rattle.stream_model.specs.declared.outgoing.Outgoing.{Outgoing}
use Rattle.stream_model.specs.Sending.{outgoing, on_output, splits, replies}
use Rattle.stream_model.specs.Regions.{has_pulses}
use Rattle.stream_model.specs.Chains.{passed}
use Rattle.network_model.specs.Packets.{items_in, without_cut, is_stream}
use Rattle.network_model.specs.Networks.{RegionPart, Part, FromSource, FromLinks, Splitter, Replica, Merger}
use Rattle.network_model.specs.Receipts.{Receipt, popped, read_in, item_events, Taken}

-- ---- chains

-- a packet on each output of a port, outputs counted from o
abbrev pub to_port : ℕ → List ℕ → ℕ → Packet → List Outgoing
to_port o [] p packet = []
to_port o (q ∷ outs) p packet =
    if p == q then outgoing o packet ∷ to_port (suc o) outs p packet else to_port (suc o) outs p packet

-- an item goes to every connection of its stream, and where it closes the stream, `Close` follows on each
abbrev pub sends : List ℕ → Output → List Outgoing
sends outs given =
    to_port 0 outs given.port (P.Item 0 given.item)
    ++ (if closes given.item then to_port 0 outs given.port P.Close else [])

abbrev pub send_all : List ℕ → List Output → List Outgoing
send_all outs given = flat_map (sends outs) given

-- the lists of items at the inputs
abbrev pub item_lists : Taken → Lists
item_lists t i = items_in (t.packets i)

-- what the last operator of a chain gives
abbrev pub given : Part → Taken → List Output
given (FromSource source ops outs) t = passed (map start ops) (map (output 0) t.items)
given (FromLinks op ops outs) t = passed (map start ops) (gives_all (start op) (arrive (item_lists t) t.entries))
given (Splitter region) t = []
given (Replica region channel) t = []
given (Merger region outs) t = map (output 0) (merged region.rule region.width t.packets)

-- ---- regions

-- what the splitter of a region owes for the items that enter, numbered from n
abbrev pub region_splits : RegionPart → ℕ → List Item → List Outgoing
region_splits region n items = splits region.routing region.width (has_pulses region.rule) n items

-- what the replica of a channel owes for all that the splitter owes to it
abbrev pub replica_owes : RegionPart → List Item → ℕ → List Packet
replica_owes region items c = replies (map start region.ops) (on_output c (region_splits region 0 items))

-- ---- all of them

abbrev pub owed : Part → Taken → List Outgoing
owed (FromSource source ops outs) t = send_all outs (given (FromSource source ops outs) t)
owed (FromLinks op ops outs) t = send_all outs (given (FromLinks op ops outs) t)
owed (Splitter region) t = region_splits region 0 (item_lists t 0)
owed (Replica region channel) t = map (outgoing 0) (replies (map start region.ops) (t.packets 0))
owed (Merger region outs) t = send_all outs (given (Merger region outs) t)

-- what it has taken binds it: a merger only while its lists are in order; a source gives a stream, and a link nothing
-- behind `Close`
abbrev pub Binds : Part → Taken → Type 0
Binds (FromSource source ops outs) t = is_stream t.items ≡ true
Binds (FromLinks op ops outs) t = Unit {0}
Binds (Splitter region) t = Unit {0}
Binds (Replica region channel) t = stops_once (without_cut (t.packets 0)) ≡ true
Binds (Merger region outs) t =
    InOrder region.rule region.width (λ c. without_cut (t.packets c))
    × ((c : ℕ) → c < region.width → stops_once (without_cut (t.packets c)) ≡ true)

-- the record of a chain: the inputs of its events, up to the one that ends its first operator
abbrev pub entries_of : Part → List Receipt → List ℕ
entries_of (FromSource source ops outs) receipts = []
entries_of (FromLinks op ops outs) receipts = inputs_of (up_to_end (start op) (item_events receipts))
entries_of (Splitter region) receipts = []
entries_of (Replica region channel) receipts = []
entries_of (Merger region outs) receipts = []

abbrev pub taken_of : Part → List Receipt → Taken
taken_of part receipts =
    record { packets = λ i. popped i receipts; items = read_in receipts; entries = entries_of part receipts }

abbrev pub owed_for : Part → List Receipt → List Outgoing
owed_for part receipts = owed part (taken_of part receipts)
