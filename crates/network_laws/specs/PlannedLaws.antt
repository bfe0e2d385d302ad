-- Networks that run a checked program by its plan: their regions hold by the region law, so at every width settled
-- lists are the streams of the program's meaning on one thread.
use Rattle.std.specs.Prelude.{◌≡◌, ◌<◌, ℕ, List, Some, slice_get}
use Rattle.spl_value.specs.declared.item.Item.{Item}
use Rattle.language_model.specs.CheckedGraph.{CheckedGraph}
use Rattle.language_model.specs.Keeping.{Keeps}
use Rattle.stream_model.specs.declared.plan.Region.{Region}
use Rattle.stream_model.specs.CheckedMeaning.{graph_of}
use Rattle.stream_model.specs.Meaning.{Lists, Entries, meaning}
use Rattle.stream_model.specs.Regions.{IsPlan, width_of}
use Rattle.network_model.specs.Packets.{packets_of}
use Rattle.network_model.specs.Networks.{Net}
use Rattle.network_model.specs.Events.{Occurrence}
use Rattle.network_model.specs.States.{reached}
use Rattle.network_model.specs.Legal.{IsLegal, AllDone, Clean}
use Rattle.network_model.specs.Joined.{NetworkLists, Joined, Settled, lists_of, sent_on, taken_from}
use Rattle.network_model.specs.Wiring.{CarriesOn, IsWired}
use Rattle.network_model.specs.Flow.{flow, IsUnder}
use Rattle.pe_fusion.specs.FusedNets.{fused_net, region_part}
use Rattle.pe_fusion.specs.FusionLaws.{IsPlanned}
use Rattle.network_laws.specs.RegionStreams.{RegionsHold}
use Rattle.network_laws.specs.RegionLaws.{HasRegionLaw, RegionsObey}

-- a network runs a checked program by its plan, at the width of the run
pub record RunsPlan (c : CheckedGraph) (plan : List Region) (width : ℕ) (net : Net) : Type 0 where
  pub keeps : Keeps c
  pub is_plan : IsPlan (graph_of c) plan
  pub wired : IsWired (graph_of c) net
  pub planned : IsPlanned (graph_of c) plan width net

-- the network into which a checked program is fused runs it so
abbrev pub FusedRuns : Type 0
FusedRuns = (c : CheckedGraph) (plan : List Region) (width capacity : ℕ) → Keeps c → IsPlan (graph_of c) plan
    → RunsPlan c plan width (fused_net (graph_of c) plan width capacity)

-- ---- regions

-- the region law holds of each region of the plan, as its elements run it
abbrev pub PlanRegionLaw : Type 0
PlanRegionLaw = (c : CheckedGraph) (plan : List Region) (i : ℕ) (region : Region) (width : ℕ) (items : List Item)
    → Keeps c → IsPlan (graph_of c) plan → slice_get plan i ≡ Some region → 0 < width_of region width
    → HasRegionLaw (region_part (graph_of c) width region) items

-- so the regions of the network obey it, and hold in every meaning
abbrev pub RunsObey : Type 0
RunsObey = (c : CheckedGraph) (plan : List Region) (width : ℕ) (net : Net) → RunsPlan c plan width net → RegionsObey net

abbrev pub RunsHold : Type 0
RunsHold = (c : CheckedGraph) (plan : List Region) (width : ℕ) (net : Net) (rows : Lists) (entries : Entries)
    → RunsPlan c plan width net → RegionsHold net (meaning (graph_of c) rows entries)

-- ---- the meaning

-- what went over a link of settled lists is its flow, and of a link that carries a stream, the stream of the meaning
abbrev pub RunsSettled : Type 0
RunsSettled = (c : CheckedGraph) (plan : List Region) (width : ℕ) (net : Net) (lists : NetworkLists) (rows : Lists)
    (entries : Entries) → RunsPlan c plan width net → Settled net lists → IsUnder net lists rows entries
    → (l : ℕ) → l < net.links
    → (sent_on net lists l ≡ flow net rows (meaning (graph_of c) rows entries) l)
    × (taken_from net lists l ≡ flow net rows (meaning (graph_of c) rows entries) l)
    × ((s : ℕ) → CarriesOn net l s → sent_on net lists l ≡ packets_of ((meaning (graph_of c) rows entries).streams s))

-- so it is of a legal list in which every element is done and none was cut
abbrev pub RunsLegal : Type 0
RunsLegal = (c : CheckedGraph) (plan : List Region) (width : ℕ) (net : Net) (list : List Occurrence) (rows : Lists)
    (entries : Entries) → RunsPlan c plan width net → IsLegal net list
    → IsUnder net (lists_of net (reached net list)) rows entries → AllDone net (reached net list)
    → Joined net (lists_of net (reached net list))
    × (Clean net (reached net list) → Settled net (lists_of net (reached net list)))

-- and with no further premise, of the network into which a checked program is fused
abbrev pub FusedSettled : Type 0
FusedSettled = (c : CheckedGraph) (plan : List Region) (width capacity : ℕ) (lists : NetworkLists) (rows : Lists)
    (entries : Entries) → Keeps c → IsPlan (graph_of c) plan
    → Settled (fused_net (graph_of c) plan width capacity) lists
    → IsUnder (fused_net (graph_of c) plan width capacity) lists rows entries
    → (l s : ℕ) → l < (fused_net (graph_of c) plan width capacity).links
    → CarriesOn (fused_net (graph_of c) plan width capacity) l s
    → sent_on (fused_net (graph_of c) plan width capacity) lists l
    ≡ packets_of ((meaning (graph_of c) rows entries).streams s)
