-- What a checked graph, its plan and a width make an element of.
use Rattle.std.specs.Prelude.{ℕ, ◌≡◌, ◌<◌, ◌≤◌, ◌^◌, List, ◌∷◌, length, map, Some, slice_get}
use Rattle.spl_value.specs.Numbered.{ByTurns, ByNumbers, ByPulses}
use Rattle.channel_heads.specs.Held.{new_held}
use Rattle.hash_splitter.specs.Splitting.{new_splitting}
use Rattle.order_merger.specs.Merging.{new_turning, new_numbering}
use Rattle.language_model.specs.CheckedGraph.{CheckedGraph}
use Rattle.language_model.specs.Keeping.{Keeps}
use Rattle.stream_model.specs.declared.plan.Region.{Region}
use Rattle.stream_model.specs.declared.shape.ShapeElement.{ShapeElement}
use Rattle.stream_model.specs.CheckedMeaning.{graph_of}
use Rattle.stream_model.specs.Operators.{Operator}
use Rattle.stream_model.specs.Regions.{IsPlan, has_pulses}
use Rattle.stream_model.specs.Stages.{start}
use Rattle.stream_model.specs.Stream.{Event}
use Rattle.network_model.specs.Networks.{Part, FromSource, FromLinks, Splitter, Replica, Merger}
use Rattle.pe_fusion.specs.declared.ports.ElementPorts.{ElementPorts}
use Rattle.pe_fusion.specs.ElementPorts.{ports_of}
use Rattle.pe_fusion.specs.FusedNets.{fused_net}
use Rattle.pe_fusion.specs.Shapes.{shape_of}
use Rattle.operator_chains.specs.Standing.{AtChain}
use Rattle.elements.specs.declared.part.ElementPart.{ElementPart}
use Rattle.elements.specs.declared.work.Work.{Work}
use Rattle.elements.specs.declared.work.Work.TheVariants as W
use Rattle.elements.specs.New.{HasNumbers, IsNew}
use Rattle.elements.specs.Suiting.{Suits}

-- it has these inputs and outputs
pub record HasPorts {R : Type 0} (made : ElementPart R) (ports : ElementPorts) : Type 0 where
  pub ids : made.ids ≡ ports.ids
  pub ins : made.ins ≡ ports.ins
  pub fans : made.fans ≡ ports.fans
  pub source : made.source ≡ ports.source

-- its operators are those of a part and have taken nothing; its splitter or merger is new, and that of the region
abbrev pub IsNewWork : {R : Type 0} (spec : R → Operator) (stands : R → List Event → Type 0) → Part → Work R → Type 0
IsNewWork spec stands (FromSource source ops outs) (W.Chain chain) = AtChain spec stands chain (map start ops)
IsNewWork spec stands (FromLinks op ops outs) (W.Chain chain) = AtChain spec stands chain (map start (op ∷ ops))
IsNewWork spec stands (Splitter region) (W.Splitter splitter) =
    splitter ≡ new_splitting region.width region.routing (has_pulses region.rule)
IsNewWork spec stands (Replica region channel) (W.Replica chain) = AtChain spec stands chain (map start region.ops)
IsNewWork spec stands (Merger region outs) (W.Turns merger) = (merger ≡ new_turning region.width) × (region.rule ≡ ByTurns)
IsNewWork spec stands (Merger region outs) (W.Numbers merger) =
    (merger ≡ new_numbering region.width) × (region.rule ≡ ByNumbers)
IsNewWork spec stands (Merger region outs) (W.Pulses merger) = (merger ≡ new_held region.width) × (region.rule ≡ ByPulses)
IsNewWork spec stands part work = ⊥

-- what element n of the shape is made of
pub record IsMade {R : Type 0} (spec : R → Operator) (stands : R → List Event → Type 0) (c : CheckedGraph)
    (plan : List Region) (width n : ℕ) (made : ElementPart R) : Type 0 where
  pub element : ShapeElement
  pub at : slice_get (shape_of (graph_of c) plan width).elements n ≡ Some element
  pub ports : HasPorts made (ports_of c plan width element)
  pub work : IsNewWork spec stands ((fused_net (graph_of c) plan width 0).part n) made.work

-- an element may be made of it that runs part n of the network, and its operators read what comes to them
abbrev pub FitLaw : {R : Type 0} (spec : R → Operator) (stands : R → List Event → Type 0) → Type 0
FitLaw {R = R} spec stands = (c : CheckedGraph) (plan : List Region) (width n capacity : ℕ) (made : ElementPart R) → Keeps c
    → IsPlan (graph_of c) plan → width ≤ 16 → IsMade spec stands c plan width n made
    → IsNew spec stands ((fused_net (graph_of c) plan width capacity).part n) made
    × HasNumbers ((fused_net (graph_of c) plan width capacity).part n) made × (length made.fans < 2 ^ 32)
    × Suits ((fused_net (graph_of c) plan width capacity).part n) made.ins
