-- The elements of a shape are those of the network into which the graph is fused.
use Rattle.std.specs.Prelude.{ℕ, ◌≡◌, List, ◌∷◌, length, None, Some, slice_get}
use Rattle.language_model.specs.CheckedGraph.{CheckedGraph}
use Rattle.language_model.specs.Keeping.{Keeps}
use Rattle.stream_model.specs.declared.plan.Region.{Region}
use Rattle.stream_model.specs.declared.shape.Role.TheVariants as L
use Rattle.stream_model.specs.declared.shape.ShapeElement.{ShapeElement}
use Rattle.stream_model.specs.CheckedMeaning.{graph_of}
use Rattle.stream_model.specs.Regions.{IsPlan}
use Rattle.network_model.specs.Networks.{RegionPart, Part, FromSource, FromLinks, Splitter, Replica, Merger}
use Rattle.stream_model.specs.Fans.{ports_of_fans}
use Rattle.pe_fusion.specs.ElementPorts.{ports_of}
use Rattle.pe_fusion.specs.FusedNets.{fused_net, region_part}
use Rattle.pe_fusion.specs.Shapes.{numbers, shape_of}

-- an element of a region of the plan
pub record OfRegion (c : CheckedGraph) (plan : List Region) (width : ℕ) (part : RegionPart) (e : ShapeElement) : Type 0 where
  pub place : ℕ
  pub region : Region
  pub here : e.region ≡ Some place
  pub at : slice_get plan place ≡ Some region
  pub runs : part ≡ region_part (graph_of c) width region
  pub ids : e.ids ≡ region.ops

-- an element of a shape has the operators, and where it leads to operators, the connections, of what an element of a network runs
abbrev pub Tells : CheckedGraph → List Region → ℕ → Part → ShapeElement → Type 0
Tells c plan width (FromSource source ops outs) e =
    (e.role ≡ L.Chain) × (e.region ≡ None) × (e.ids ≡ numbers (source ∷ ops)) × (outs ≡ ports_of_fans (ports_of c plan width e).fans)
Tells c plan width (FromLinks op ops outs) e =
    (e.role ≡ L.Chain) × (e.region ≡ None) × (e.ids ≡ numbers (op ∷ ops)) × (outs ≡ ports_of_fans (ports_of c plan width e).fans)
Tells c plan width (Splitter part) e = (e.role ≡ L.Splitter) × OfRegion c plan width part e
Tells c plan width (Replica part channel) e = (e.role ≡ L.Replica channel) × OfRegion c plan width part e
Tells c plan width (Merger part outs) e =
    (e.role ≡ L.Merger) × OfRegion c plan width part e × (outs ≡ ports_of_fans (ports_of c plan width e).fans)

-- the elements of the shape, in their order, tell what those of the network run
pub record IsTold (c : CheckedGraph) (plan : List Region) (width capacity : ℕ) : Type 0 where
  pub many : length (shape_of (graph_of c) plan width).elements ≡ (fused_net (graph_of c) plan width capacity).size
  pub each : (n : ℕ) (e : ShapeElement) → slice_get (shape_of (graph_of c) plan width).elements n ≡ Some e
      → Tells c plan width ((fused_net (graph_of c) plan width capacity).part n) e

abbrev pub ElementsLaw : Type 0
ElementsLaw = (c : CheckedGraph) (plan : List Region) (width capacity : ℕ) → Keeps c → IsPlan (graph_of c) plan → IsTold c plan width capacity
