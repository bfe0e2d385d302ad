-- What the counts of a run say of its network.
use Rattle.std.specs.Prelude.{ℕ, ◌<◌, ◌-◌, ◌^◌, ◌≡◌, List, [], length, min, Some, slice_get}
use Rattle.language_model.specs.CheckedGraph.{CheckedGraph}
use Rattle.stream_model.specs.declared.plan.Region.{Region}
use Rattle.stream_model.specs.declared.record.ChannelCount.{ChannelCount}
use Rattle.stream_model.specs.CheckedMeaning.{graph_of}
use Rattle.stream_model.specs.Meaning.{Graph, Lists, Entries, Meaning, meaning}
use Rattle.stream_model.specs.Runs.{counts_of}
use Rattle.network_model.specs.Packets.{items_in}
use Rattle.network_model.specs.Networks.{RegionPart, Splitter, Net}
use Rattle.network_model.specs.Joined.{NetworkLists, Settled, sent_on}
use Rattle.network_model.specs.Flow.{IsUnder}
use Rattle.pe_fusion.specs.Counts.{planned_counts}
use Rattle.pe_fusion.specs.FusedNets.{region_part}
use Rattle.pe_fusion.specs.Pieces.{replicated}
use Rattle.network_laws.specs.PlannedLaws.{RunsPlan}

-- where no region runs in replicas, they are the counts of the graph
abbrev pub PlainCounts : Type 0
PlainCounts = (g : Graph) (plan : List Region) (width : ℕ) (m : Meaning) → replicated width plan ≡ []
    → planned_counts g plan width m ≡ counts_of g m

-- a count of a link that leads from the splitter of a region: of the region's place in the plan, of the channel, and of the
-- items that went over the link
pub record IsCounted (c : CheckedGraph) (plan : List Region) (width : ℕ) (net : Net) (lists : NetworkLists)
    (counts : List ChannelCount) (part : RegionPart) (l : ℕ) : Type 0 where
  pub place : ℕ
  pub region : Region
  pub at : slice_get plan place ≡ Some region
  pub runs : part ≡ region_part (graph_of c) width region
  pub entry : ℕ
  pub count : slice_get counts entry ≡ Some (record {
    region = place;
    channel = (net.link l).output;
    events = min (length (items_in (sent_on net lists l))) (2 ^ 64 - 1);
  })

-- In settled lists of a network that runs a program by its plan, each link that leads from the splitter of a region with two
-- channels or more has its count.
abbrev pub ChannelCounts : Type 0
ChannelCounts = (c : CheckedGraph) (plan : List Region) (width : ℕ) (net : Net) (lists : NetworkLists) (rows : Lists)
    (entries : Entries) → RunsPlan c plan width net → Settled net lists → IsUnder net lists rows entries
    → (l : ℕ) (part : RegionPart) → l < net.links → net.part (net.link l).from ≡ Splitter part → 1 < part.width
    → IsCounted c plan width net lists (planned_counts (graph_of c) plan width (meaning (graph_of c) rows entries)).channels
    part l
