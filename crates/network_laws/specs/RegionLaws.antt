-- What the region law gives for a region of a network, and what it gives for networks with regions.
use Rattle.std.specs.Prelude.{◌≡◌, ℕ, ◌<◌, true, List, Some, slice_get}
use Rattle.spl_value.specs.declared.item.Item.{Item}
use Rattle.spl_value.specs.declared.packet.Packet.{Packet}
use Rattle.spl_value.specs.Numbered.{cut, merged, InOrder}
use Rattle.stream_model.specs.Stages.{chain}
use Rattle.stream_model.specs.Meaning.{Graph, Lists, Entries, meaning, in_topo}
use Rattle.stream_model.specs.Laws.{IsOrdered}
use Rattle.stream_model.specs.Sending.{on_output}
use Rattle.stream_model.specs.Stream.{any_closes, IsPrefix}
use Rattle.network_model.specs.Packets.{items_in, without_cut}
use Rattle.network_model.specs.Networks.{RegionPart, Part, FromSource, FromLinks, Splitter, Replica, Merger, Net}
use Rattle.network_model.specs.Owed.{item_lists, replica_owes}
use Rattle.network_model.specs.Receipts.{popped}
use Rattle.network_model.specs.Events.{Occurrence}
use Rattle.network_model.specs.States.{State, all_taken, reached}
use Rattle.network_model.specs.Legal.{Clean, IsDone, IsLegal}
use Rattle.network_model.specs.Joined.{NetworkLists, InProgress}
use Rattle.network_model.specs.Wiring.{RegionFits, IsWired}
use Rattle.network_laws.specs.RegionStreams.{MergerHolds}

-- What the region law gives for a region and a stream: whatever fronts the merger has taken, they are in order, and
-- their merge is a front of what the chain gives; and it is all of it where the stream has come to its end and all was
-- taken.
pub record HasRegionLaw (region : RegionPart) (items : List Item) : Type 0 where
  pub fronts : (went : ℕ → List Packet) → ((c : ℕ) → c < region.width → IsPrefix (went c) (replica_owes region items c))
      → InOrder region.rule region.width went
      × IsPrefix (merged region.rule region.width went) (chain region.ops (cut items))
  pub whole : any_closes items ≡ true
      → merged region.rule region.width (replica_owes region items) ≡ chain region.ops (cut items)

-- then the region holds in a network that runs the graph
abbrev pub HoldsLaw : Type 0
HoldsLaw = (g : Graph) (rows : Lists) (entries : Entries) (region : RegionPart) → IsOrdered (in_topo g)
    → RegionFits g region
    → HasRegionLaw region ((meaning g rows entries).streams region.entry) → MergerHolds (meaning g rows entries) region

-- At any moment: the packets that the merger of a region has taken are in order, and the items that it has pushed are a
-- front of what the region's chain gives for what its splitter has taken.
abbrev pub RegionMomentLaw : Type 0
RegionMomentLaw = (g : Graph) (net : Net) (lists : NetworkLists) (region : RegionPart) (outs : List ℕ) (e d : ℕ)
    → IsWired g net → InProgress net lists → e < net.size → d < net.size
    → net.part e ≡ Merger region outs → net.part d ≡ Splitter region
    → HasRegionLaw region (item_lists (lists.taken d) 0)
    → InOrder region.rule region.width (λ c. without_cut ((lists.taken e).packets c))
    × ((o : ℕ) → slice_get outs o ≡ Some 0
    → IsPrefix (items_in (lists.sent e o)) (chain region.ops (cut (item_lists (lists.taken d) 0))))

-- ---- in legal lists

-- the region law holds of the region of each merger, for every list
abbrev pub RegionObeys : Part → Type 0
RegionObeys (FromSource source ops outs) = Unit {0}
RegionObeys (FromLinks op ops outs) = Unit {0}
RegionObeys (Splitter region) = Unit {0}
RegionObeys (Replica region channel) = Unit {0}
RegionObeys (Merger region outs) = (items : List Item) → HasRegionLaw region items

abbrev pub RegionsObey : Net → Type 0
RegionsObey net = (e : ℕ) → e < net.size → RegionObeys (net.part e)

-- what has entered a region by its splitter, and what has left it by an output of its merger
abbrev pub entered : State → ℕ → List Item
entered st splitter = items_in (popped 0 (all_taken (st splitter)))

abbrev pub has_left : State → ℕ → ℕ → List Item
has_left st merger o = items_in (on_output o (st merger).pushed)

-- In every legal list, at each moment: the packets that the merger of a region has taken are in order, and the items
-- that it has pushed are a front of what the region's chain gives for what the region's splitter has taken.
abbrev pub LegalRegionLaw : Type 0
LegalRegionLaw = (g : Graph) (net : Net) (list : List Occurrence) (region : RegionPart) (outs : List ℕ) (e d : ℕ)
    → IsWired g net → RegionsObey net → IsLegal net list → e < net.size → d < net.size
    → net.part e ≡ Merger region outs → net.part d ≡ Splitter region
    → InOrder region.rule region.width (λ c. without_cut (popped c (all_taken (reached net list e))))
    × ((o : ℕ) → slice_get outs o ≡ Some 0
    → IsPrefix (has_left (reached net list) e o) (chain region.ops (entered (reached net list) d)))

-- an element is one of a region
abbrev pub IsOf : RegionPart → Part → Type 0
IsOf region (FromSource source ops outs) = ⊥
IsOf region (FromLinks op ops outs) = ⊥
IsOf region (Splitter own) = own ≡ region
IsOf region (Replica own channel) = own ≡ region
IsOf region (Merger own outs) = own ≡ region

-- each of them is done
abbrev pub IsRegionDone : Net → State → RegionPart → Type 0
IsRegionDone net st region = (k : ℕ) → k < net.size → IsOf region (net.part k) → IsDone (net.part k) (st k)

-- where no element was cut and those of the region are done, the items that its merger has pushed are all of that
abbrev pub DoneRegionLaw : Type 0
DoneRegionLaw = (g : Graph) (net : Net) (list : List Occurrence) (region : RegionPart) (outs : List ℕ) (e d : ℕ)
    → IsWired g net → RegionsObey net → IsLegal net list → Clean net (reached net list) → e < net.size → d < net.size
    → net.part e ≡ Merger region outs → net.part d ≡ Splitter region → IsRegionDone net (reached net list) region
    → (o : ℕ) → slice_get outs o ≡ Some 0
    → has_left (reached net list) e o ≡ chain region.ops (entered (reached net list) d)
