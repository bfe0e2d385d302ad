-- What has to hold of the regions of a network for its links to carry the streams of a meaning.
use Rattle.std.specs.Prelude.{ℕ, ◌<◌, true, ◌≡◌, Bool, false}
use Rattle.spl_value.specs.Numbered.{InOrder, merged}
use Rattle.stream_model.specs.Stream.{is_closed, IsPrefix}
use Rattle.stream_model.specs.Meaning.{Meaning}
use Rattle.network_model.specs.Networks.{RegionPart, Part, FromSource, FromLinks, Splitter, Replica, Merger, Net}
use Rattle.network_model.specs.Flow.{channel_flow}

-- What has to hold of the regions of a network, by the region law: what a merger takes in the meaning is in order, and
-- its merge is a front of the stream that the region's chain makes, and all of it where the stream that enters is
-- closed.
pub record MergerHolds (m : Meaning) (region : RegionPart) : Type 0 where
  pub in_order : InOrder region.rule region.width (channel_flow region m)
  pub front : IsPrefix (merged region.rule region.width (channel_flow region m)) (m.streams region.exit)
  pub whole : is_closed (m.streams region.entry) ≡ true
      → merged region.rule region.width (channel_flow region m) ≡ m.streams region.exit

abbrev pub RegionHolds : Meaning → Part → Type 0
RegionHolds m (FromSource source ops outs) = Unit {0}
RegionHolds m (FromLinks op ops outs) = Unit {0}
RegionHolds m (Splitter region) = Unit {0}
RegionHolds m (Replica region channel) = Unit {0}
RegionHolds m (Merger region outs) = MergerHolds m region

abbrev pub RegionsHold : Net → Meaning → Type 0
RegionsHold net m = (e : ℕ) → e < net.size → RegionHolds m (net.part e)

-- a merger's merge is all of the stream that the region's chain makes
abbrev pub RegionMeets : Meaning → Part → Type 0
RegionMeets m (FromSource source ops outs) = Unit {0}
RegionMeets m (FromLinks op ops outs) = Unit {0}
RegionMeets m (Splitter region) = Unit {0}
RegionMeets m (Replica region channel) = Unit {0}
RegionMeets m (Merger region outs) = merged region.rule region.width (channel_flow region m) ≡ m.streams region.exit

abbrev pub RegionsMeet : Net → Meaning → Type 0
RegionsMeet net m = (e : ℕ) → e < net.size → RegionMeets m (net.part e)

-- the part of a region
abbrev pub is_regional : Part → Bool
is_regional (FromSource source ops outs) = false
is_regional (FromLinks op ops outs) = false
is_regional (Splitter region) = true
is_regional (Replica region channel) = true
is_regional (Merger region outs) = true
