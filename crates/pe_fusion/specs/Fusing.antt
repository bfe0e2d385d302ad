-- What fusion uses of a graph and of its regions, and what it makes of them.
use Rattle.std.specs.Prelude.{ℕ, ◌+◌, ◌<◌, ◌≤◌, ◌==◌, ◌≡◌, ◌⊎◌, true, false, List, [], ◌∷◌, ◌++◌, map, length, Some, slice_get}
use Rattle.std.specs.List.{concat}
use Rattle.stream_model.specs.declared.plan.Region.{Region}
use Rattle.stream_model.specs.Operators.{Operator, connections, ports}
use Rattle.stream_model.specs.Meaning.{Graph, in_topo}
use Rattle.stream_model.specs.Laws.{IsOrdered, IsNumbered, is_made, reads_stream}
use Rattle.stream_model.specs.Regions.{how_often, ops_of}
use Rattle.network_model.specs.Networks.{last_of}
use Rattle.network_model.specs.Wiring.{is_source, Stands}
use Rattle.pe_fusion.specs.FusedNets.{region_in}
use Rattle.pe_fusion.specs.Pieces.{in_region, Piece, ops_in}
use Rattle.pe_fusion.specs.Readers.{readers}
use Rattle.pe_fusion.specs.Shapes.{numbers}
use Rattle.pe_fusion.specs.Totals.{one_if, total, times}

-- what fusion uses of a checked graph
pub record GraphFits (g : Graph) : Type 0 where
  pub ordered : IsOrdered (in_topo g)
  pub numbered : IsNumbered g
  -- each operator stands once in the order
  pub once : (n : ℕ) (op : Operator) → slice_get g.ops n ≡ Some op → times (λ (o : Operator). o.number == n) (in_topo g) ≡ 1
  pub there : (op : Operator) → Stands g op → slice_get g.ops op.number ≡ Some op
  -- each stream that is read is made
  pub made : (op : Operator) (s : ℕ) → Stands g op → reads_stream op s ≡ true → is_made (in_topo g) s ≡ true
  -- the streams of output ports are apart
  pub apart : (op : Operator) (s : ℕ) → Stands g op → times (λ o. o == s) op.outs ≤ 1
  pub no_input : (op : Operator) → Stands g op → is_source op.clauses ≡ true → op.ins ≡ []
  pub one_output : (op : Operator) → Stands g op → is_source op.clauses ≡ true → (s : ℕ) × (op.outs ≡ s ∷ [])
  pub reads : (op : Operator) → Stands g op → is_source op.clauses ≡ false → 0 < length (ports op)
  pub ports : (op : Operator) (i : ℕ) (streams : List ℕ) → Stands g op → slice_get op.ins i ≡ Some streams → 0 < length streams

-- ---- chains

-- the second operator takes the one stream of the first, which no other connection takes, by its one connection
pub record TakesAlone (g : Graph) (producer op : Operator) : Type 0 where
  pub stream : ℕ
  pub outs : producer.outs ≡ stream ∷ []
  pub ins : connections op ≡ stream ∷ []
  pub alone : length (readers g stream) ≡ 1

-- each operator takes the stream of the one before it alone
abbrev pub Fused : Graph → Operator → List Operator → Type 0
Fused g op [] = Unit {0}
Fused g op (next ∷ ops) =
    (s : ℕ) × (op.outs ≡ s ∷ []) × (connections next ≡ s ∷ []) × (length (readers g s) ≡ 1) × Stands g next × Fused g next ops

-- ---- regions

-- a region is a chain that reads one stream by one connection and makes one stream
pub record RegionChain (g : Graph) (region : Region) : Type 0 where
  pub first : Operator
  pub behind : List Operator
  pub are : ops_of g region.ops ≡ first ∷ behind
  pub numbers : map (λ (op : Operator). op.number) (first ∷ behind) ≡ region.ops
  pub stands : Stands g first
  pub fused : Fused g first behind
  pub reads : (s : ℕ) × (connections first ≡ s ∷ [])
  pub makes : (s : ℕ) × ((last_of first behind).outs ≡ s ∷ [])

-- no operator stands in two regions, or twice in one
pub record AreRegions (g : Graph) (regions : List Region) : Type 0 where
  pub chains : (i : ℕ) (region : Region) → slice_get regions i ≡ Some region → RegionChain g region
  pub once : (n : ℕ) → how_often n (concat (map (λ (r : Region). r.ops) regions)) ≤ 1

-- ---- pieces

-- how often streams are made
abbrev pub makes_in : ℕ → List Operator → ℕ
makes_in s ops = total (λ (op : Operator). times (λ o. o == s) op.outs) ops

abbrev pub Each : (Piece → Type 0) → List Piece → Type 0
Each P [] = Unit {0}
Each P (p ∷ pieces) = P p × Each P pieces

-- what the first operator of each piece reads is made before that, in earlier pieces or as the count says
abbrev pub Feeds : (ℕ → ℕ) → List Piece → Type 0
Feeds seen [] = Unit {0}
Feeds seen (p ∷ pieces) = ((s : ℕ) → reads_stream p.first s ≡ true → 0 < seen s) × Feeds (λ s. seen s + makes_in s (ops_in p)) pieces

abbrev pub in_all : (Operator → ℕ) → List Piece → ℕ
in_all f pieces = total (λ p. total f (ops_in p)) pieces

-- operators are fused into these pieces: each stands in one, each piece is a chain, and what a piece reads is made in pieces before it
pub record AreFused (g : Graph) (ops : List Operator) (pieces : List Piece) : Type 0 where
  pub all : (f : Operator → ℕ) → in_all f pieces ≡ total f ops
  pub fused : Each (λ p. Stands g p.first × Fused g p.first p.behind) pieces
  pub feeds : Feeds (λ s. 0) pieces

-- the operators of a piece are the first ones of a region
pub record Begins (regions : List Region) (p : Piece) : Type 0 where
  pub place : ℕ
  pub region : Region
  pub at : slice_get regions place ≡ Some region
  pub rest : List ℕ
  pub are : numbers (ops_in p) ++ rest ≡ region.ops

-- or none is in a region
abbrev pub Regional : List Region → Piece → Type 0
Regional regions p = (total (λ (op : Operator). one_if (in_region regions op.number)) (ops_in p) ≡ 0) ⊎ Begins regions p

-- a piece whose first operator is in a region has all its operators
pub record HasAll (g : Graph) (regions : List Region) (r : Region) (p : Piece) : Type 0 where
  pub place : ℕ
  pub at : slice_get regions place ≡ Some r
  pub ops : ops_of g r.ops ≡ ops_in p

-- each piece that begins a region has all of it
abbrev pub HaveAll : Graph → List Region → List Piece → Type 0
HaveAll g regions pieces =
    (j : ℕ) (p : Piece) (r : Region) → slice_get pieces j ≡ Some p → region_in regions p ≡ Some r → HasAll g regions r p
