-- The shape of the network into which a graph is fused: its elements, by what they do and which operators they have, and its links. Which elements
-- each worker runs.
use Prim.Native.Nat.{zero, suc}
use Rattle.std.specs.Prelude.{ℕ, ◌==◌, ◌%◌, List, [], ◌∷◌, ◌++◌, filter, map, Option, None, Some, position}
use Rattle.std.specs.List.{flat_map}
use Rattle.stream_model.specs.declared.plan.Region.{Region}
use Rattle.stream_model.specs.declared.shape.Role.{Role}
use Rattle.stream_model.specs.declared.shape.Role.TheVariants as L
use Rattle.stream_model.specs.declared.shape.Shape.{Shape}
use Rattle.stream_model.specs.declared.shape.ShapeElement.{ShapeElement}
use Rattle.stream_model.specs.Operators.{Operator}
use Rattle.stream_model.specs.Meaning.{Graph}
use Rattle.stream_model.specs.Regions.{numbers_to, width_of}
use Rattle.pe_fusion.specs.Pieces.{is_among, Piece, ops_in, pieces_of, replicated}
use Rattle.pe_fusion.specs.FusedNets.{links_of, region_in}

abbrev pub numbers : List Operator → List ℕ
numbers ops = map (λ (op : Operator). op.number) ops

-- the place in the plan of the region that has an operator
abbrev pub region_place : List Region → ℕ → Option ℕ
region_place plan n = position (λ (r : Region). is_among n r.ops) plan

abbrev pub element : Role → Option ℕ → List ℕ → ShapeElement
element role region ids = record { role = role; region = region; ids = ids }

-- the replicas from channel c on
abbrev pub replica_elements : Option ℕ → List ℕ → ℕ → ℕ → List ShapeElement
replica_elements region ids c zero = []
replica_elements region ids c (suc width) = element (L.Replica c) region ids ∷ replica_elements region ids (suc c) width

-- a chain is one element. A region is the splitter, the replicas by channel, and the merger
abbrev pub elements_by : Option ℕ → ℕ → Option Region → List ℕ → List ShapeElement
elements_by place width None ids = element L.Chain None ids ∷ []
elements_by place width (Some r) ids =
    element L.Splitter place ids ∷ (replica_elements place ids 0 (width_of r width) ++ element L.Merger place ids ∷ [])

abbrev pub elements_in : List Region → List Region → ℕ → Piece → List ShapeElement
elements_in plan regions width p = elements_by (region_place plan p.first.number) width (region_in regions p) (numbers (ops_in p))

abbrev pub elements_of : List Region → List Region → ℕ → List Piece → List ShapeElement
elements_of plan regions width pieces = flat_map (elements_in plan regions width) pieces

-- the shape of a graph, its plan and a width
abbrev pub shape_of : Graph → List Region → ℕ → Shape
shape_of g plan width = record {
  elements = elements_of plan (replicated width plan) width (pieces_of g (replicated width plan));
  links = links_of g (replicated width plan) width (pieces_of g (replicated width plan));
}

-- element e belongs to group e modulo the number of workers: of n elements those of a group, in ascending order
abbrev pub group_of : ℕ → ℕ → ℕ → List ℕ
group_of n workers k = filter (λ e. e % workers == k) (numbers_to n)

abbrev pub groups_of : ℕ → ℕ → List (List ℕ)
groups_of n workers = map (group_of n workers) (numbers_to workers)
