-- What the names in the bodies of a graph mean: streams of the graph, in words of the graph and of the text.
use Rattle.std.specs.Prelude.{◌≡◌, ℕ, List, [], ◌∷◌, ◌++◌, Some, slice_get}
use Rattle.spl_tree.specs.declared.expression.Placed.{Placed}
use Rattle.spl_tree.specs.declared.graph.Expansion.{Expansion}
use Rattle.spl_tree.specs.declared.graph.Graph.{Graph}
use Rattle.spl_tree.specs.declared.graph.Op.{Op}
use Rattle.spl_tree.specs.declared.graph.Site.{Site}
use Rattle.spl_tree.specs.declared.unit.Composite.{Composite}
use Rattle.spl_tree.specs.declared.unit.Definition.{Definition}
use Rattle.spl_tree.specs.declared.unit.HeadPort.{HeadPort}
use Rattle.spl_tree.specs.declared.unit.InputPort.{InputPort}
use Rattle.spl_tree.specs.declared.unit.Invocation.{Invocation}
use Rattle.spl_tree.specs.declared.unit.OutputStream.{OutputStream}
use Rattle.language_model.specs.DollarTargets.{composite_of, invocation_at}

abbrev pub site : ℕ → ℕ → Site
site number place = record { expansion = number; invocation = place }

-- the body of a composite is the expansion at that number
pub record IsBody (unit : List Definition) (g : Graph) (number : ℕ) (x : Expansion) (c : Composite) : Type 0 where
  pub there : slice_get g.expansions number ≡ Some x
  pub composite : composite_of unit x ≡ Some c

-- in the graph of a composite the invocation at a place makes, as that output, a stream of that name
pub record MakesAs (c : Composite) (name : List ℕ) (place output : ℕ) : Type 0 where
  pub invocation : Invocation
  pub stream : OutputStream
  pub there : slice_get c.graph place ≡ Some invocation
  pub made : slice_get invocation.outputs output ≡ Some stream
  pub named : stream.name.what ≡ name

-- the stream of the graph that an output of the invocation at a site is: that of the operator there, or, where a composite is
-- invoked, what the stream of its graph is that has the name of this output of its head
pub data IsOutput (unit : List Definition) (g : Graph) : Site → ℕ → ℕ → Type 0 where
  of_operator : (s : Site) (output stream : ℕ) (n : ℕ) (op : Op) → slice_get g.ops n ≡ Some op → op.site ≡ s → slice_get op.outs output ≡ Some stream
      → IsOutput unit g s output stream
  of_composite : (s : Site) (output stream : ℕ) (number : ℕ) (x : Expansion) (c : Composite) (p : HeadPort) (place inner : ℕ) → IsBody unit g number x c → x.site ≡ Some s
      → slice_get c.outputs output ≡ Some p → MakesAs c p.name.what place inner → IsOutput unit g (site number place) inner stream
      → IsOutput unit g s output stream

-- the streams that a name means in the body at a number: one that its graph makes, or, for the name of an input of the head, those
-- of the names at that input where the composite is invoked, in order
mutual
  pub data StandsFor (unit : List Definition) (g : Graph) : ℕ → List ℕ → List ℕ → Type 0 where
    made : (number : ℕ) (name : List ℕ) (x : Expansion) (c : Composite) (place output stream : ℕ) → IsBody unit g number x c → MakesAs c name place output
        → IsOutput unit g (site number place) output stream → StandsFor unit g number name (stream ∷ [])
    given : (number : ℕ) (name : List ℕ) (x : Expansion) (c : Composite) (k : ℕ) (p : HeadPort) (s : Site) (i : Invocation) (q : InputPort) (streams : List ℕ)
        → IsBody unit g number x c → slice_get c.inputs k ≡ Some p → p.name.what ≡ name → x.site ≡ Some s → invocation_at unit g.expansions s ≡ Some i
        → slice_get i.inputs k ≡ Some q → StandForAll unit g s.expansion q.streams streams → StandsFor unit g number name streams

  pub data StandForAll (unit : List Definition) (g : Graph) : ℕ → List (Placed (List ℕ)) → List ℕ → Type 0 where
    none : (number : ℕ) → StandForAll unit g number [] []
    more : (number : ℕ) (n : Placed (List ℕ)) (ns : List (Placed (List ℕ))) (xs ys : List ℕ) → StandsFor unit g number n.what xs → StandForAll unit g number ns ys
        → StandForAll unit g number (n ∷ ns) (xs ++ ys)
