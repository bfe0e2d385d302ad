-- What holds of the answer for every unit, and of its graph where it has one.
use Rattle.std.specs.Prelude.{◌≡◌, ◌↔◌, ◌<◌, ℕ, List, [], ◌∷◌, ◌++◌, length, Some, None, Ok, slice_get}
use Rattle.std.specs.List.{concat, Contains}
use Rattle.spl_tree.specs.declared.graph.Expansion.{Expansion}
use Rattle.spl_tree.specs.declared.graph.Graph.{Graph}
use Rattle.spl_tree.specs.declared.graph.Op.{Op}
use Rattle.spl_tree.specs.declared.graph.OpKind.{OpKind}
use Rattle.spl_tree.specs.declared.graph.Site.{Site}
use Rattle.spl_tree.specs.declared.graph.Stream.{Stream}
use Rattle.spl_tree.specs.declared.unit.Composite.{Composite}
use Rattle.spl_tree.specs.declared.unit.Definition.{Definition}
use Rattle.spl_tree.specs.declared.unit.Invocation.{Invocation}
use Rattle.language_model.specs.Composites.{composites}
use Rattle.language_model.specs.Expansion.{Expanded}
use Rattle.language_model.specs.Flat.{IsFlat, flat_from}
use Rattle.language_model.specs.Invoking.{Operator, Body, target_of}
use Rattle.language_model.specs.Recursion.{HasNoRecursion, composite_callers}
use Rattle.language_model.specs.Scopes.{At}
use Rattle.language_model.specs.DollarTargets.{invocation_at}

-- a unit has one answer at most
abbrev pub OneFlatLaw : Type 0
OneFlatLaw = (unit : List Definition) (names : List (List ℕ)) (x y : Expanded Graph) → IsFlat unit names x → IsFlat unit names y → x ≡ y

-- what holds of the graph of a unit from a main composite on
abbrev pub OfGraphs : (List Definition → At Composite → Graph → Type 0) → Type 0
OfGraphs P = (unit : List Definition) (names : List (List ℕ)) (main : At Composite) (g : Graph) → flat_from unit names main ≡ Ok g → P unit main g

-- the invocation of an operator: it stands in the graph of a composite, invokes no composite but an operator of that kind,
-- and has as many inputs and outputs as the operator has ports
pub record IsInvoked (unit : List Definition) (g : Graph) (op : Op) : Type 0 where
  pub invocation : Invocation
  pub there : invocation_at unit g.expansions op.site ≡ Some invocation
  pub kind : target_of unit invocation.operator.what ≡ Operator op.kind
  pub at : op.at ≡ invocation.at
  pub ins : length op.ins ≡ length invocation.inputs
  pub outs : length op.outs ≡ length invocation.outputs

-- no composite is left, where the main one is of the unit: each operator is that of an invocation of one
abbrev pub OperatorLaw : Type 0
OperatorLaw = OfGraphs (λ unit main g. slice_get (composites unit) main.place ≡ Some main.what → (n : ℕ) (op : Op) → slice_get g.ops n ≡ Some op → IsInvoked unit g op)

-- invocations of which no operator comes: each is of a composite, and none comes of those in its graph
pub data MakesNone (unit : List Definition) : List Invocation → Type 0 where
  of_none : MakesNone unit []
  one_more : (i : Invocation) (is : List Invocation) (c : At Composite) → target_of unit i.operator.what ≡ Body c → MakesNone unit c.what.graph
      → MakesNone unit is → MakesNone unit (i ∷ is)

-- what becomes of an invocation: the operator that it invokes stands at its site, or the body of the composite that it
-- invokes does, or no operator comes of that composite
pub data IsKept (unit : List Definition) (g : Graph) (s : Site) (i : Invocation) : Type 0 where
  as_operator : (kind : OpKind) (n : ℕ) (op : Op) → target_of unit i.operator.what ≡ Operator kind
      → slice_get g.ops n ≡ Some op → op.site ≡ s → op.kind ≡ kind → IsKept unit g s i
  as_body : (c : At Composite) (k : ℕ) (x : Expansion) → target_of unit i.operator.what ≡ Body c
      → slice_get g.expansions k ≡ Some x → x.site ≡ Some s → x.composite ≡ c.place → IsKept unit g s i
  without_operators : (c : At Composite) → target_of unit i.operator.what ≡ Body c → MakesNone unit c.what.graph → IsKept unit g s i

-- the main body is the first, and each invocation in a body is kept
pub record IsWhole (unit : List Definition) (main : At Composite) (g : Graph) : Type 0 where
  pub main_body : (x : Expansion) × (slice_get g.expansions 0 ≡ Some x) × (x.composite ≡ main.place) × (x.site ≡ None)
  pub kept : (s : Site) (i : Invocation) → invocation_at unit g.expansions s ≡ Some i → IsKept unit g s i

-- no operator is left out, where no composite reaches itself
abbrev pub WholeLaw : Type 0
WholeLaw = OfGraphs (λ unit main g. slice_get (composites unit) main.place ≡ Some main.what → HasNoRecursion (composite_callers unit) → IsWhole unit main g)

-- the operator that is said to make the stream gives that number on that port
abbrev pub IsMadeAs : Graph → Stream → ℕ → Type 0
IsMadeAs g s number = (op : Op) × (slice_get g.ops s.maker ≡ Some op) × (slice_get op.outs s.port ≡ Some number)

-- each stream has one maker: it is the one with that number in the graph, where the operator and the port that it names give this
-- number, and nothing else does
abbrev pub MakerLaw : Type 0
MakerLaw = OfGraphs (λ unit main g. (number : ℕ) (s : Stream) → (slice_get g.streams number ≡ Some s) ↔ IsMadeAs g s number)

-- the order has each operator and no other number, each once, and after those that make the streams that it takes
pub record IsTopological (g : Graph) : Type 0 where
  pub all : (n : ℕ) → Contains g.topo n ↔ (n < length g.ops)
  pub once : (before after : List ℕ) (n : ℕ) → g.topo ≡ before ++ n ∷ after → Contains before n → ⊥
  pub behind : (before after : List ℕ) (n : ℕ) (op : Op) → g.topo ≡ before ++ n ∷ after → slice_get g.ops n ≡ Some op
      → (number : ℕ) → Contains (concat op.ins) number → (s : Stream) × (slice_get g.streams number ≡ Some s) × Contains before s.maker

abbrev pub TopoLaw : Type 0
TopoLaw = OfGraphs (λ unit main g. IsTopological g)

-- what an operator takes are streams of the graph
abbrev pub ConnectedLaw : Type 0
ConnectedLaw = OfGraphs (λ unit main g. (n : ℕ) (op : Op) → slice_get g.ops n ≡ Some op → (number : ℕ) → Contains (concat op.ins) number → number < length g.streams)
