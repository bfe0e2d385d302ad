-- What holds of the pieces into which a graph is fused, and of their network: it runs the graph.
use Rattle.std.specs.Prelude.{ℕ, ◌<◌, ◌≡◌, ◌↔◌, false, List, ◌∷◌, ◌++◌, map, Some, slice_get}
use Rattle.language_model.specs.CheckedGraph.{CheckedGraph}
use Rattle.language_model.specs.Keeping.{Keeps}
use Rattle.stream_model.specs.declared.plan.Region.{Region}
use Rattle.stream_model.specs.CheckedMeaning.{graph_of}
use Rattle.stream_model.specs.Operators.{Operator}
use Rattle.stream_model.specs.Meaning.{Graph, in_topo}
use Rattle.stream_model.specs.Regions.{IsPartOf, IsPlan, width_of}
use Rattle.network_model.specs.Networks.{RegionPart, Merger, Net}
use Rattle.network_model.specs.Wiring.{IsWired, RegionFits, Stands}
use Rattle.pe_fusion.specs.Fusing.{AreFused, AreRegions, HaveAll, Each, GraphFits, Regional, TakesAlone}
use Rattle.pe_fusion.specs.FusedNets.{fused_net, net_at, region_part}
use Rattle.pe_fusion.specs.Pieces.{in_region, Piece, ops_in, pieces_of, replicated}
use Rattle.pe_fusion.specs.Shapes.{numbers}

-- ---- graphs and plans

abbrev pub FitsLaw : Type 0
FitsLaw = (c : CheckedGraph) → Keeps c → GraphFits (graph_of c)

abbrev pub RegionsLaw : Type 0
RegionsLaw = (g : Graph) (plan : List Region) (width : ℕ) → GraphFits g → IsPlan g plan → AreRegions g (replicated width plan)

-- a region is a chain as elements run it
abbrev pub ChainLaw : Type 0
ChainLaw = (g : Graph) (regions : List Region) (i : ℕ) (region : Region) (width : ℕ) → GraphFits g → AreRegions g regions → slice_get regions i ≡ Some region
    → 0 < width_of region width → RegionFits g (region_part g width region)

-- ---- pieces

-- each operator stands in one piece, each piece is a chain, and none leads out of a region or into one
abbrev pub PiecesLaw : Type 0
PiecesLaw = (g : Graph) (regions : List Region) → GraphFits g → AreRegions g regions
    → AreFused g (in_topo g) (pieces_of g regions) × Each (Regional regions) (pieces_of g regions)

-- the piece of a region has all its operators
abbrev pub WholeLaw : Type 0
WholeLaw = (g : Graph) (regions : List Region) → GraphFits g → AreRegions g regions → HaveAll g regions (pieces_of g regions)

-- an operator stands directly behind another one in a piece
pub record StandsBehind (pieces : List Piece) (producer op : Operator) : Type 0 where
  pub at : ℕ
  pub piece : Piece
  pub is : slice_get pieces at ≡ Some piece
  pub before : List Operator
  pub after : List Operator
  pub ops : ops_in piece ≡ before ++ producer ∷ op ∷ after

-- an operator outside regions stands directly behind its producer in a piece exactly where four facts hold: it has one connection, the stream that it
-- reads has no other one, the producer has one output port, and the producer is outside regions
abbrev pub FactsLaw : Type 0
FactsLaw = (g : Graph) (regions : List Region) (producer op : Operator) → GraphFits g → AreRegions g regions → Stands g producer → Stands g op
    → in_region regions op.number ≡ false
    → StandsBehind (pieces_of g regions) producer op ↔ (TakesAlone g producer op × (in_region regions producer.number ≡ false))

-- pieces stand in the order of their first operators
abbrev pub OrderLaw : Type 0
OrderLaw = (g : Graph) (regions : List Region) → IsPartOf (map (λ (p : Piece). p.first.number) (pieces_of g regions)) (numbers (in_topo g))

-- ---- networks

-- the network of pieces runs the graph
abbrev pub WiredLaw : Type 0
WiredLaw = (g : Graph) (plan : List Region) (width capacity : ℕ) (pieces : List Piece) → GraphFits g → AreRegions g (replicated width plan)
    → AreFused g (in_topo g) pieces → HaveAll g (replicated width plan) pieces → IsWired g (net_at g (replicated width plan) width capacity pieces)

-- so does that of a checked graph, its plan and any width
abbrev pub FusedWired : Type 0
FusedWired = (c : CheckedGraph) (plan : List Region) (width capacity : ℕ) → Keeps c → IsPlan (graph_of c) plan
    → IsWired (graph_of c) (fused_net (graph_of c) plan width capacity)

-- the regions that a network runs are regions of the plan, each of its own width
abbrev pub IsPlanned : Graph → List Region → ℕ → Net → Type 0
IsPlanned g plan width net = (e : ℕ) (part : RegionPart) (outs : List ℕ) → e < net.size → net.part e ≡ Merger part outs
    → (i : ℕ) × (region : Region) × (slice_get plan i ≡ Some region) × (part ≡ region_part g width region)

abbrev pub FusedPlanned : Type 0
FusedPlanned = (c : CheckedGraph) (plan : List Region) (width capacity : ℕ) → Keeps c → IsPlan (graph_of c) plan
    → IsPlanned (graph_of c) plan width (fused_net (graph_of c) plan width capacity)
