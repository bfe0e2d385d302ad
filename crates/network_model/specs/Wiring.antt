-- When a network runs a graph: its chains are chains of the graph, its regions are chains too, and its links are the
-- graph's connections between them and the channels of regions.
use Rattle.std.specs.Prelude.{ℕ, ◌<◌, ◌==◌, Bool, true, false, List, [], ◌∷◌, ◌++◌, ◌⊎◌, ◌≡◌, length, Some, slice_get, position}
use Rattle.language_model.specs.declared.checked.CheckedClauses.{CheckedClauses}
use Rattle.language_model.specs.declared.checked.CheckedClauses.TheVariants as A
use Rattle.stream_model.specs.Operators.{Operator, connections, ports}
use Rattle.stream_model.specs.Meaning.{Graph, in_topo}
use Rattle.stream_model.specs.Laws.{IsOrdered, IsNumbered}
use Rattle.network_model.specs.Networks.{RegionPart, Part, FromSource, FromLinks, Splitter, Replica, Merger, last_of, inputs, outputs, Net}

abbrev pub is_source : CheckedClauses → Bool
is_source (A.FileSource file strict) = true
is_source _ = false

-- an operator stands in the topological order
pub record Stands (g : Graph) (op : Operator) : Type 0 where
  pub before : List Operator
  pub behind : List Operator
  pub are : in_topo g ≡ before ++ op ∷ behind

-- each operator reads, by its one connection, the one stream of the operator before it
abbrev pub Path : Graph → Operator → List Operator → Type 0
Path g op [] = Unit {0}
Path g op (next ∷ ops) =
    (s : ℕ) × (op.outs ≡ s ∷ []) × (next.ins ≡ (s ∷ []) ∷ []) × Stands g next
    × (is_source next.clauses ≡ false) × Path g next ops

-- each output carries a stream of the last operator
abbrev pub PortsFit : Operator → List ℕ → Type 0
PortsFit op outs = (o p : ℕ) → slice_get outs o ≡ Some p → p < length op.outs

pub record SourceFits (g : Graph) (source : Operator) (ops : List Operator) (outs : List ℕ) : Type 0 where
  pub stands : Stands g source
  pub reads : is_source source.clauses ≡ true
  pub stream : ℕ
  pub one_stream : source.outs ≡ stream ∷ []
  pub path : Path g source ops
  pub fit : PortsFit (last_of source ops) outs

pub record ChainFits (g : Graph) (op : Operator) (ops : List Operator) (outs : List ℕ) : Type 0 where
  pub stands : Stands g op
  pub no_source : is_source op.clauses ≡ false
  pub reads : 0 < length (ports op)
  pub path : Path g op ops
  pub fit : PortsFit (last_of op ops) outs

-- a region is a chain that reads a stream by its one connection and makes a stream
pub record RegionFits (g : Graph) (region : RegionPart) : Type 0 where
  pub op : Operator
  pub ops : List Operator
  pub are : region.ops ≡ op ∷ ops
  pub stands : Stands g op
  pub no_source : is_source op.clauses ≡ false
  pub reads : op.ins ≡ (region.entry ∷ []) ∷ []
  pub path : Path g op ops
  pub makes : (last_of op ops).outs ≡ region.exit ∷ []
  pub some : 0 < region.width

abbrev pub PartFits : Graph → Part → Type 0
PartFits g (FromSource source ops outs) = SourceFits g source ops outs
PartFits g (FromLinks op ops outs) = ChainFits g op ops outs
PartFits g (Splitter region) = RegionFits g region
PartFits g (Replica region channel) = RegionFits g region × (channel < region.width)
PartFits g (Merger region outs) = RegionFits g region × ((o p : ℕ) → slice_get outs o ≡ Some p → p ≡ 0)

-- a stream stands at an output port of an operator
abbrev pub IsAt : Operator → ℕ → ℕ → Type 0
IsAt op p s = position (λ t. t == s) op.outs ≡ Some p

-- an output carries a stream
abbrev pub Carries : Part → ℕ → ℕ → Type 0
Carries (FromSource source ops outs) o s = (p : ℕ) × (slice_get outs o ≡ Some p) × IsAt (last_of source ops) p s
Carries (FromLinks op ops outs) o s = (p : ℕ) × (slice_get outs o ≡ Some p) × IsAt (last_of op ops) p s
Carries (Splitter region) o s = ⊥
Carries (Replica region channel) o s = ⊥
Carries (Merger region outs) o s = (slice_get outs o ≡ Some 0) × (region.exit ≡ s)

-- a link leads from such an output
abbrev pub CarriesOn : Net → ℕ → ℕ → Type 0
CarriesOn net l s = Carries (net.part (net.link l).from) (net.link l).output s

-- an input is a connection of a stream
abbrev pub Connects : Part → ℕ → ℕ → Type 0
Connects (FromSource source ops outs) i s = ⊥
Connects (FromLinks op ops outs) i s = slice_get (connections op) i ≡ Some s
Connects (Splitter region) i s = (i ≡ 0) × (region.entry ≡ s)
Connects (Replica region channel) i s = ⊥
Connects (Merger region outs) i s = ⊥

-- the stream of a link outside regions
pub record StreamLink (net : Net) (l : ℕ) : Type 0 where
  pub stream : ℕ
  pub carried : CarriesOn net l stream
  pub connected : Connects (net.part (net.link l).to) (net.link l).input stream

-- the channel of a link that leads from a splitter to a replica
pub record ReplicaLink (net : Net) (l : ℕ) : Type 0 where
  pub region : RegionPart
  pub from : net.part (net.link l).from ≡ Splitter region
  pub within : (net.link l).output < region.width
  pub to : net.part (net.link l).to ≡ Replica region (net.link l).output
  pub input : (net.link l).input ≡ 0

-- and from a replica to a merger
pub record MergerLink (net : Net) (l : ℕ) : Type 0 where
  pub region : RegionPart
  pub outs : List ℕ
  pub from : net.part (net.link l).from ≡ Replica region (net.link l).input
  pub within : (net.link l).input < region.width
  pub output : (net.link l).output ≡ 0
  pub to : net.part (net.link l).to ≡ Merger region outs

pub record LinkFits (net : Net) (l : ℕ) : Type 0 where
  pub ends : StreamLink net l ⊎ (ReplicaLink net l ⊎ MergerLink net l)
  -- elements stand in topological order
  pub earlier : (net.link l).from < (net.link l).to
  pub within : (net.link l).to < net.size

-- a link that leads to an input
pub record Fed (net : Net) (e i : ℕ) : Type 0 where
  pub link : ℕ
  pub within : link < net.links
  pub to : (net.link link).to ≡ e
  pub input : (net.link link).input ≡ i

-- a link that leads away from an output
pub record Led (net : Net) (e o : ℕ) : Type 0 where
  pub link : ℕ
  pub within : link < net.links
  pub from : (net.link link).from ≡ e
  pub output : (net.link link).output ≡ o

pub record IsWired (g : Graph) (net : Net) : Type 0 where
  pub ordered : IsOrdered (in_topo g)
  pub numbered : IsNumbered g
  pub parts : (e : ℕ) → e < net.size → PartFits g (net.part e)
  pub links : (l : ℕ) → l < net.links → LinkFits net l
  -- each output leads to a link
  pub led : (e o : ℕ) → e < net.size → o < outputs (net.part e) → Led net e o
  -- each input has one link
  pub fed : (e i : ℕ) → e < net.size → i < inputs (net.part e) → Fed net e i
  pub one : (l m : ℕ) → l < net.links → m < net.links → (net.link l).to ≡ (net.link m).to
      → (net.link l).input ≡ (net.link m).input → l ≡ m
  -- each region has one splitter
  pub one_splitter : (e d : ℕ) (region : RegionPart) → e < net.size → d < net.size → net.part e ≡ Splitter region
      → net.part d ≡ Splitter region → e ≡ d

-- the last operator of a chain, where it isn't its source
abbrev pub IsLast : Part → Operator → Type 0
IsLast (FromSource source [] outs) last = ⊥
IsLast (FromSource source (next ∷ ops) outs) last = last_of next ops ≡ last
IsLast (FromLinks op ops outs) last = last_of op ops ≡ last
IsLast (Splitter region) last = ⊥
IsLast (Replica region channel) last = ⊥
IsLast (Merger region outs) last = ⊥
