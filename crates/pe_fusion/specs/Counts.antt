-- The counts of a run in the network into which a program is fused: how many items the splitter of each region sends to each
-- channel, and how many tuples each sink has.
use Prim.Native.Nat.{zero, suc}
use Rattle.std.specs.Prelude.{ℕ, ◌-◌, ◌^◌, List, [], ◌∷◌, ◌++◌, length, min, if◌then◌else◌}
use Rattle.spl_value.specs.declared.item.Item.{Item}
use Rattle.spl_value.specs.Route.{part}
use Rattle.stream_model.specs.declared.plan.Region.{Region}
use Rattle.stream_model.specs.declared.record.ChannelCount.{ChannelCount}
use Rattle.stream_model.specs.declared.record.Counts.{Counts}
use Rattle.stream_model.specs.Meaning.{Graph, Meaning}
use Rattle.stream_model.specs.Regions.{width_of}
use Rattle.stream_model.specs.Runs.{counts_of}
use Rattle.network_model.specs.Networks.{RegionPart}
use Rattle.pe_fusion.specs.FusedNets.{region_part}
use Rattle.pe_fusion.specs.Pieces.{is_replicated}

-- of a stream that enters the region with this place in the plan, the number of items that are routed to a channel
abbrev pub channel_count : RegionPart → List Item → ℕ → ℕ → ChannelCount
channel_count region items place c = record {
  region = place;
  channel = c;
  events = min (length (part region.routing region.width items c)) (2 ^ 64 - 1);
}

-- for n channels, from channel c on
abbrev pub channel_counts : RegionPart → List Item → ℕ → ℕ → ℕ → List ChannelCount
channel_counts region items place c zero = []
channel_counts region items place c (suc n) =
    channel_count region items place c ∷ channel_counts region items place (suc c) n

-- for each region that runs in replicas, where the regions have the places from i on
abbrev pub region_counts : Graph → ℕ → Meaning → ℕ → List Region → List ChannelCount
region_counts g width m i [] = []
region_counts g width m i (r ∷ plan) =
    (if is_replicated width r
    then channel_counts (region_part g width r) (m.streams (region_part g width r).entry) i 0 (width_of r width) else [])
    ++ region_counts g width m (suc i) plan

-- the counts of a graph by its plan and the width of the run
abbrev pub planned_counts : Graph → List Region → ℕ → Meaning → Counts
planned_counts g plan width m = record { channels = region_counts g width m 0 plan; sinks = (counts_of g m).sinks }
