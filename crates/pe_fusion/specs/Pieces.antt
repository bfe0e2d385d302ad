-- Into which pieces the operators of a graph are fused. A piece is the operators of a region that runs in replicas, or a chain outside regions of which
-- each operator takes the stream of the one before it alone.
use Rattle.std.specs.Prelude.{ℕ, ◌==◌, ◌&&◌, nat_lt, not, Bool, false, List, [], ◌∷◌, ◌++◌, filter, length, if◌then◌else◌}
use Rattle.std.specs.List.{list_any}
use Rattle.stream_model.specs.declared.plan.Region.{Region}
use Rattle.stream_model.specs.Operators.{Operator, connections}
use Rattle.stream_model.specs.Meaning.{Graph, in_topo}
use Rattle.stream_model.specs.Regions.{width_of}
use Rattle.network_model.specs.Networks.{last_of}
use Rattle.pe_fusion.specs.Readers.{readers}

-- ---- regions

-- A region runs in replicas where its own width is at least 2. Where it is less, the region's operators are fused as if they
-- stood in no region.
abbrev pub is_replicated : ℕ → Region → Bool
is_replicated width region = nat_lt 1 (width_of region width)

-- the regions of a plan that run in replicas
abbrev pub replicated : ℕ → List Region → List Region
replicated width plan = filter (is_replicated width) plan

abbrev pub is_among : ℕ → List ℕ → Bool
is_among n ns = list_any (λ m. m == n) ns

abbrev pub in_region : List Region → ℕ → Bool
in_region regions n = list_any (λ (r : Region). is_among n r.ops) regions

-- one region has both operators
abbrev pub share_region : List Region → ℕ → ℕ → Bool
share_region regions m n = list_any (λ (r : Region). is_among m r.ops && is_among n r.ops) regions

-- ---- pieces

-- a piece has one operator at least
pub record Piece : Type 0 where
  pub first : Operator
  pub behind : List Operator

abbrev pub ops_in : Piece → List Operator
ops_in p = p.first ∷ p.behind

abbrev pub last_in : Piece → Operator
last_in p = last_of p.first p.behind

-- the streams of an operator's output ports are one, which its reader alone takes, by its one connection
abbrev pub takes_alone : Graph → List ℕ → List ℕ → Bool
takes_alone g [] streams = false
takes_alone g (s ∷ []) [] = false
takes_alone g (s ∷ []) (t ∷ []) = s == t && length (readers g s) == 1
takes_alone g (s ∷ []) (t ∷ u ∷ streams) = false
takes_alone g (s ∷ r ∷ outs) streams = false

-- an operator has one connection, the stream that it reads has no other one, and its producer has one output port
abbrev pub fuses : Graph → Operator → Operator → Bool
fuses g producer op = takes_alone g producer.outs (connections op)

-- an operator of a region joins the piece of that region. Any other one joins that of its producer, where both fuse and the producer is outside
-- regions
abbrev pub takes : Graph → List Region → Piece → Operator → Bool
takes g regions p op =
    if in_region regions op.number then share_region regions p.first.number op.number
    else not (in_region regions p.first.number) && fuses g (last_in p) op

abbrev pub longer : Piece → Operator → Piece
longer p op = record { first = p.first; behind = p.behind ++ op ∷ [] }

-- an operator joins the piece that takes it, and else begins one
abbrev pub place : (Piece → Operator → Bool) → List Piece → Operator → List Piece
place test [] op = record { first = op; behind = [] } ∷ []
place test (p ∷ pieces) op = if test p op then longer p op ∷ pieces else p ∷ place test pieces op

abbrev pub placed : (Piece → Operator → Bool) → List Piece → List Operator → List Piece
placed test pieces [] = pieces
placed test pieces (op ∷ ops) = placed test (place test pieces op) ops

-- all operators, in topological order: so pieces stand in the order of their first operators
abbrev pub pieces_of : Graph → List Region → List Piece
pieces_of g regions = placed (takes g regions) [] (in_topo g)
