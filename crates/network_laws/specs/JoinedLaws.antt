-- Laws of joined and of settled lists.
use Rattle.std.specs.Prelude.{ℕ, ◌<◌, ◌≤◌, true, List, ◌≡◌}
use Rattle.stream_model.specs.Stream.{IsPrefix}
use Rattle.stream_model.specs.Operators.{Operator, connections}
use Rattle.stream_model.specs.Stages.{out, on_port}
use Rattle.stream_model.specs.Meaning.{Graph, Lists, Entries, meaning, lists_at, events_of}
use Rattle.stream_model.specs.Records.{is_whole}
use Rattle.network_model.specs.Packets.{besides_close, items_in, packets_of}
use Rattle.network_model.specs.Networks.{Part, FromLinks, Net}
use Rattle.network_model.specs.Owed.{given}
use Rattle.network_model.specs.Joined.{NetworkLists, Joined, Settled, sent_on, InProgress, owed_on, taken_at}
use Rattle.network_model.specs.Wiring.{IsWired, IsLast, CarriesOn}
use Rattle.network_model.specs.Flow.{carried, flow, IsUnder}
use Rattle.network_model.specs.Sinks.{pours, poured_of}
use Rattle.network_model.specs.States.{At}
use Rattle.network_laws.specs.RegionStreams.{RegionsHold, RegionsMeet}

-- what went over a link is a front of its stream in the meaning under the records
abbrev pub JoinedLaw : Type 0
JoinedLaw = (g : Graph) (net : Net) (lists : NetworkLists) (rows : Lists) (entries : Entries) → IsWired g net
    → RegionsHold net (meaning g rows entries) → Joined net lists → IsUnder net lists rows entries
    → (l s : ℕ) → l < net.links → CarriesOn net l s
    → IsPrefix (items_in (sent_on net lists l)) ((meaning g rows entries).streams s)

-- settled lists are those of the meaning
abbrev pub SettledLaw : Type 0
SettledLaw = (g : Graph) (net : Net) (lists : NetworkLists) (rows : Lists) (entries : Entries) → IsWired g net
    → RegionsHold net (meaning g rows entries) → Settled net lists → IsUnder net lists rows entries
    → (l s : ℕ) → l < net.links → CarriesOn net l s
    → sent_on net lists l ≡ packets_of ((meaning g rows entries).streams s)

-- what a chain has given is a front of what its last operator gives in the meaning, on each port; of a sink on port 0,
-- as which its writer stands
abbrev pub JoinedGivesLaw : Type 0
JoinedGivesLaw = (g : Graph) (net : Net) (lists : NetworkLists) (rows : Lists) (entries : Entries) → IsWired g net
    → RegionsHold net (meaning g rows entries) → Joined net lists → IsUnder net lists rows entries
    → (e p : ℕ) (last : Operator) → e < net.size → IsLast (net.part e) last
    → IsPrefix (on_port p (given (net.part e) (lists.taken e)))
    (out last p (events_of last (meaning g rows entries).streams (entries last.number)))

-- in settled lists it is all of that
abbrev pub SettledGivesLaw : Type 0
SettledGivesLaw = (g : Graph) (net : Net) (lists : NetworkLists) (rows : Lists) (entries : Entries) → IsWired g net
    → RegionsHold net (meaning g rows entries) → Settled net lists → IsUnder net lists rows entries
    → (e p : ℕ) (last : Operator) → e < net.size → IsLast (net.part e) last
    → on_port p (given (net.part e) (lists.taken e))
    ≡ out last p (events_of last (meaning g rows entries).streams (entries last.number))

-- the records of settled lists are whole
abbrev pub WholeLaw : Type 0
WholeLaw = (g : Graph) (net : Net) (lists : NetworkLists) (rows : Lists) (entries : Entries) → IsWired g net
    → RegionsHold net (meaning g rows entries) → Settled net lists → IsUnder net lists rows entries
    → (e : ℕ) (op : Operator) (ops : List Operator) (outs : List ℕ) → e < net.size → net.part e ≡ FromLinks op ops outs
    → is_whole op (lists_at (meaning g rows entries).streams (connections op)) (lists.taken e).entries ≡ true

-- in settled lists, what the merger of each region merges is all of the stream that the region makes
abbrev pub MeetLaw : Type 0
MeetLaw = (g : Graph) (net : Net) (lists : NetworkLists) (rows : Lists) (entries : Entries) → IsWired g net
    → RegionsHold net (meaning g rows entries) → Settled net lists
    → IsUnder net lists rows entries → RegionsMeet net (meaning g rows entries)

-- where it is, the flow of each link that carries a stream is that stream
abbrev pub FlowLaw : Type 0
FlowLaw = (g : Graph) (net : Net) (rows : Lists) (entries : Entries) → IsWired g net
    → RegionsMeet net (meaning g rows entries)
    → (l s : ℕ) → l < net.links → CarriesOn net l s
    → flow net rows (meaning g rows entries) l ≡ packets_of ((meaning g rows entries).streams s)

-- At any moment, what an element owes on a link for its lists has at most as many packets besides `Close` as the link
-- carries in the meaning.
abbrev pub CarriedLaw : Type 0
CarriedLaw = (g : Graph) (net : Net) (lists : NetworkLists) (rows : Lists) (entries : Entries) → IsWired g net
    → RegionsHold net (meaning g rows entries) → InProgress net lists → IsUnder net lists rows entries
    → (l : ℕ) → l < net.links
    → besides_close (owed_on net lists l) ≤ carried net rows (meaning g rows entries) l

-- The tuples that a chain has for its sink by what counts for it are a front of those that it gives its sink for all
-- that it took: where it was cut, what it took from then on doesn't count.
abbrev pub PouredLaw : Type 0
PouredLaw = (part : Part) (a : At) → IsPrefix (pours part a.kept) (poured_of part (given part (taken_at part a)))
