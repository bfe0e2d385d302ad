-- What holds of the graph of a unit: that there is one, or a refusal; where its operators stand in the text, how they are named, what they
-- take, and their order.
use Rattle.std.specs.Prelude.{◌≡◌, ◌<◌, ◌↔◌, ℕ, List, Some, Ok, slice_get}
use Rattle.spl_tree.specs.declared.graph.Graph.{Graph}
use Rattle.spl_tree.specs.declared.graph.Op.{Op}
use Rattle.spl_tree.specs.declared.unit.Definition.{Definition}
use Rattle.spl_tree.specs.declared.unit.InputPort.{InputPort}
use Rattle.spl_tree.specs.declared.unit.Invocation.{Invocation}
use Rattle.language_model.specs.Expansion.{Expanded}
use Rattle.language_model.specs.CheckedGraph.{CheckedGraph}
use Rattle.language_model.specs.Checking.{checked}
use Rattle.language_model.specs.Flat.{IsFlat}
use Rattle.language_model.specs.DollarTargets.{invocation_at}
use Rattle.expansion_laws.specs.Bodies.{IsBefore, OpLies, IsNamed}
use Rattle.expansion_laws.specs.Order.{IsTheOrder}
use Rattle.expansion_laws.specs.Standing.{StandsFor, StandForAll}

abbrev pub OfFlat : (List Definition → Graph → Type 0) → Type 0
OfFlat P = (unit : List Definition) (names : List (List ℕ)) (g : Graph) → IsFlat unit names (Ok g) → P unit g

-- each site is that of one operator at most
abbrev pub SiteLaw : Type 0
SiteLaw = OfFlat (λ unit g. (m n : ℕ) (o p : Op) → slice_get g.ops m ≡ Some o → slice_get g.ops n ≡ Some p → o.site ≡ p.site → m ≡ n)

-- there is one way to an operator, and after its prefix the operator has its own name
abbrev pub NameLaw : Type 0
NameLaw = OfFlat (λ unit g. (n : ℕ) (op : Op) → slice_get g.ops n ≡ Some op → (way : List ℕ) × (prefix : List ℕ) × OpLies unit g op way prefix × IsNamed unit g op prefix
    × ((other another : List ℕ) → OpLies unit g op other another → (other ≡ way) × (another ≡ prefix)))

-- operators stand in the order of the text
abbrev pub TextLaw : Type 0
TextLaw = OfFlat (λ unit g. (m n : ℕ) (o p : Op) → m < n → slice_get g.ops m ≡ Some o → slice_get g.ops n ≡ Some p
    → (a b x y : List ℕ) → OpLies unit g o a x → OpLies unit g p b y → IsBefore a b)

-- an input of an operator has the streams that the names there mean, in order, and no others
abbrev pub InputLaw : Type 0
InputLaw = OfFlat (λ unit g. (n : ℕ) (op : Op) (i : Invocation) (k : ℕ) (q : InputPort) → slice_get g.ops n ≡ Some op → invocation_at unit g.expansions op.site ≡ Some i
    → slice_get i.inputs k ≡ Some q → (streams : List ℕ) → (slice_get op.ins k ≡ Some streams) ↔ StandForAll unit g op.site.expansion q.streams streams)

-- a name means one list of streams at most
abbrev pub OneStandingLaw : Type 0
OneStandingLaw = OfFlat (λ unit g. (number : ℕ) (name : List ℕ) (xs ys : List ℕ) → StandsFor unit g number name xs → StandsFor unit g number name ys → xs ≡ ys)

-- the graph has the topological order, and no other list of operators is one
abbrev pub OrderLaw : Type 0
OrderLaw = OfFlat (λ unit g. IsTheOrder g g.topo × ((order : List ℕ) → IsTheOrder g order → order ≡ g.topo))

-- a unit has a graph, or a first refusal on the way to it
abbrev pub IsFound : List Definition → List (List ℕ) → Type 0
IsFound unit names = (x : Expanded Graph) × IsFlat unit names x

-- so each unit does
abbrev pub FoundLaw : Type 0
FoundLaw = (unit : List Definition) (names : List (List ℕ)) → IsFound unit names

-- what is found of a graph has this graph
abbrev pub SameGraphLaw : Type 0
SameGraphLaw = (unit : List Definition) (g : Graph) (c : CheckedGraph) → checked unit g ≡ Ok c → c.graph ≡ g

-- so what is found of the graph of a unit has the topological order, and no other list of operators is one
abbrev pub CheckedOrderLaw : Type 0
CheckedOrderLaw = (unit : List Definition) (names : List (List ℕ)) (g : Graph) (c : CheckedGraph) → IsFlat unit names (Ok g) → checked unit g ≡ Ok c
    → IsTheOrder c.graph c.graph.topo × ((order : List ℕ) → IsTheOrder c.graph order → order ≡ c.graph.topo)
