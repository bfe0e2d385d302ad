-- What drivers of splitters and mergers know of them between two steps.
use Rattle.std.specs.Prelude.{ℕ, ◌≡◌, ◌<◌, ◌^◌, ◌⊎◌, false, List, [], ◌∷◌, length}
use Rattle.spl_value.specs.declared.routing.Routing.{Routing}
use Rattle.spl_value.specs.declared.routing.Routing.TheVariants.{Key, Turns}
use Rattle.spl_value.specs.declared.types.IntKind.TheVariants.{I64}
use Rattle.spl_value.specs.declared.types.SplType.TheVariants as T
use Rattle.language_model.specs.StreamTypes.{Attributes}
use Rattle.stream_model.specs.Stream.{any_closes}
use Rattle.hash_splitter.specs.Splitting.{Splitting}
use Rattle.network_model.specs.Networks.{RegionPart}
use Rattle.network_model.specs.Packets.{items_in}
use Rattle.network_model.specs.Receipts.{Receipt, popped}
use Rattle.element_outboxes.specs.Waiting.{fans_from, outputs_in}
use Rattle.element_outboxes.specs.declared.fan.Fan.{Fan}
use Rattle.element_works.specs.Works.{SplitterAt}

-- one attribute, an int64
abbrev pub HasNumber : Attributes → Type 0
HasNumber types = (name : List ℕ) × (types ≡ record { name = name; kind = T.Int I64 } ∷ [])

-- by turns, or by the first attribute
abbrev pub IsRouted : Routing → Type 0
IsRouted routing = (routing ≡ Turns) ⊎ (routing ≡ Key (0 ∷ []))

-- a splitter with pulses of so many channels, which has taken so many items, none of which closes the stream
pub record Splits (width sent : ℕ) (s : Splitting) : Type 0 where
  pub region : RegionPart
  pub receipts : List Receipt
  pub at : SplitterAt region receipts s
  pub unclosed : any_closes (items_in (popped 0 receipts)) ≡ false
  pub routed : IsRouted region.routing
  pub same_width : region.width ≡ width
  pub same_sent : length (items_in (popped 0 receipts)) ≡ sent

-- the outputs of some ports
abbrev pub AreFans : List Fan → Type 0
AreFans fans = (counts : List ℕ) × (fans ≡ fans_from 0 counts) × (outputs_in counts < 2 ^ 32)
