-- What a new element is made of.
use Rattle.std.specs.Prelude.{◌≡◌, ◌<◌, ◌≤◌, ◌^◌, ◌-◌, ℕ, Bool, false, nat_lt, List, length, map, slice_get, ◌∷◌, Option, None, Some, is_some}
use Rattle.spl_value.specs.Numbered.{ByTurns, ByNumbers, ByPulses}
use Rattle.channel_heads.specs.Held.{new_held}
use Rattle.hash_splitter.specs.Splitting.{new_splitting}
use Rattle.order_merger.specs.Merging.{new_turning, new_numbering}
use Rattle.stream_model.specs.Fans.{ports_of_fans}
use Rattle.stream_model.specs.Operators.{Operator}
use Rattle.stream_model.specs.Regions.{has_pulses}
use Rattle.stream_model.specs.Stages.{start}
use Rattle.stream_model.specs.Stream.{Event}
use Rattle.network_model.specs.Networks.{Part, FromSource, FromLinks, Splitter, Replica, Merger, inputs, outputs, is_sourced}
use Rattle.operator_chains.specs.Standing.{AtChain, places_of}
use Rattle.element_notes.specs.Endings.{last_operator}
use Rattle.element_outboxes.specs.Waiting.{outputs_in}
use Rattle.element_works.specs.Works.{HasFans}
use Rattle.elements.specs.declared.output.Output.{Output}
use Rattle.elements.specs.declared.part.ElementPart.{ElementPart}
use Rattle.elements.specs.declared.work.Work.{Work}
use Rattle.elements.specs.declared.work.Work.TheVariants as W

abbrev pub new_output : Output
new_output = record { ended = false }

-- the places that the tuples of its operators need
abbrev pub places_for : {R : Type 0} → Work R → ℕ
places_for (W.Chain chain) = places_of chain
places_for (W.Replica chain) = places_of chain
places_for (W.Splitter splitter) = 0
places_for (W.Turns merger) = 0
places_for (W.Numbers merger) = 0
places_for (W.Pulses merger) = 0

-- the last of the operators with these numbers, where its ends are those of an element with this work
abbrev pub last_by : {R : Type 0} → Work R → List ℕ → Option ℕ
last_by (W.Chain chain) ids = slice_get ids (length ids - 1)
last_by (W.Replica chain) ids = None
last_by (W.Splitter splitter) ids = None
last_by (W.Turns merger) ids = slice_get ids (length ids - 1)
last_by (W.Numbers merger) ids = slice_get ids (length ids - 1)
last_by (W.Pulses merger) ids = slice_get ids (length ids - 1)

-- the arrivals at so many inputs are recorded
abbrev pub recorded_by : {R : Type 0} → Work R → ℕ → Bool
recorded_by (W.Chain chain) n = nat_lt 1 n
recorded_by (W.Replica chain) n = false
recorded_by (W.Splitter splitter) n = false
recorded_by (W.Turns merger) n = false
recorded_by (W.Numbers merger) n = false
recorded_by (W.Pulses merger) n = false

-- the numbers of the operators of a part in the order of its chain, those of the region for a splitter and a merger
abbrev pub numbers_of : Part → List ℕ
numbers_of (FromSource source ops outs) = map (λ (op : Operator). op.number) (source ∷ ops)
numbers_of (FromLinks op ops outs) = map (λ (op : Operator). op.number) (op ∷ ops)
numbers_of (Splitter region) = map (λ (op : Operator). op.number) region.ops
numbers_of (Replica region channel) = map (λ (op : Operator). op.number) region.ops
numbers_of (Merger region outs) = map (λ (op : Operator). op.number) region.ops

-- the operators, the splitter or the merger of a part, which have taken nothing, with its connections
abbrev pub NewWork : {R : Type 0} (spec : R → Operator) (stands : R → List Event → Type 0) → Part → Work R → List ℕ → Type 0
NewWork spec stands (FromSource source ops outs) (W.Chain chain) fans =
    AtChain spec stands chain (map start ops) × HasFans (FromSource source ops outs) fans
NewWork spec stands (FromLinks op ops outs) (W.Chain chain) fans =
    AtChain spec stands chain (map start (op ∷ ops)) × HasFans (FromLinks op ops outs) fans
NewWork spec stands (Splitter region) (W.Splitter splitter) fans =
    (splitter ≡ new_splitting region.width region.routing (has_pulses region.rule)) × (length fans ≡ region.width)
    × (region.width ≤ 16)
NewWork spec stands (Replica region channel) (W.Replica chain) fans = AtChain spec stands chain (map start region.ops)
NewWork spec stands (Merger region outs) (W.Turns merger) fans =
    (merger ≡ new_turning region.width) × (region.rule ≡ ByTurns) × (outs ≡ ports_of_fans fans) × (0 < region.width)
NewWork spec stands (Merger region outs) (W.Numbers merger) fans =
    (merger ≡ new_numbering region.width) × (region.rule ≡ ByNumbers) × (outs ≡ ports_of_fans fans) × (0 < region.width)
NewWork spec stands (Merger region outs) (W.Pulses merger) fans =
    (merger ≡ new_held region.width) × (region.rule ≡ ByPulses) × (outs ≡ ports_of_fans fans) × (0 < region.width)
NewWork spec stands part work fans = ⊥

-- what an element of this part is made of, before it has taken anything
pub record IsNew {R : Type 0} (spec : R → Operator) (stands : R → List Event → Type 0) (part : Part) (made : ElementPart R) : Type 0 where
  pub input_count : length made.ins ≡ inputs part
  pub output_count : outputs_in made.fans ≡ outputs part
  pub few : outputs part < 2 ^ 32
  pub sourced : is_some made.source ≡ is_sourced part
  pub new_work : NewWork spec stands part made.work made.fans

-- it has the numbers of the operators of this part, and the connections of each output port of the last one
pub record HasNumbers {R : Type 0} (part : Part) (made : ElementPart R) : Type 0 where
  pub ids : made.ids ≡ numbers_of part
  pub ports : (op : Operator) → last_operator part ≡ Some op → length made.fans ≡ length op.outs
