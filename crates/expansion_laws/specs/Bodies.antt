-- Where the bodies and the operators of a graph stand in the text of a unit, and their names: in words of the graph and of the text.
use Rattle.std.specs.Prelude.{◌≡◌, ◌<◌, ℕ, List, [], ◌∷◌, ◌++◌, Some, None, codes, slice_get}
use Rattle.spl_tree.specs.declared.expression.Placed.{Placed}
use Rattle.spl_tree.specs.declared.graph.Expansion.{Expansion}
use Rattle.spl_tree.specs.declared.graph.Graph.{Graph}
use Rattle.spl_tree.specs.declared.graph.Op.{Op}
use Rattle.spl_tree.specs.declared.graph.Site.{Site}
use Rattle.spl_tree.specs.declared.unit.Definition.{Definition}
use Rattle.spl_tree.specs.declared.unit.Invocation.{Invocation}
use Rattle.spl_tree.specs.declared.unit.OutputStream.{OutputStream}
use Rattle.language_model.specs.DollarTargets.{invocation_at}

-- the name of an invocation: its alias, or else its first output stream
pub data IsName (i : Invocation) : List ℕ → Type 0 where
  by_alias : (n : Placed (List ℕ)) → i.alias ≡ Some n → IsName i n.what
  by_stream : (o : OutputStream) (os : List OutputStream) → i.alias ≡ None → i.outputs ≡ o ∷ os → IsName i o.name.what
  without : i.alias ≡ None → i.outputs ≡ [] → IsName i []

-- the body at a number: the places of the invocations that lead to it from the main composite on, each in the graph of the one before, and
-- what stands in front of the names of its operators, which is the name of each of these invocations and a dot
pub data Lies (unit : List Definition) (g : Graph) : ℕ → List ℕ → List ℕ → Type 0 where
  in_main : (n : ℕ) (x : Expansion) → slice_get g.expansions n ≡ Some x → x.site ≡ None → Lies unit g n [] []
  in_body : (n : ℕ) (x : Expansion) (s : Site) (i : Invocation) (name way prefix : List ℕ) → slice_get g.expansions n ≡ Some x → x.site ≡ Some s
      → invocation_at unit g.expansions s ≡ Some i → IsName i name → Lies unit g s.expansion way prefix
      → Lies unit g n (way ++ s.invocation ∷ []) (prefix ++ name ++ codes ".")

-- a way comes before another in the text: where they part, it takes an invocation that stands in front
pub record IsBefore (a b : List ℕ) : Type 0 where
  pub common : List ℕ
  pub m : ℕ
  pub n : ℕ
  pub rest : List ℕ
  pub others : List ℕ
  pub first : a ≡ common ++ m ∷ rest
  pub second : b ≡ common ++ n ∷ others
  pub less : m < n

-- the way to an operator, with its own invocation at the end
pub record OpLies (unit : List Definition) (g : Graph) (op : Op) (way prefix : List ℕ) : Type 0 where
  pub outer : List ℕ
  pub body : Lies unit g op.site.expansion outer prefix
  pub is : way ≡ outer ++ op.site.invocation ∷ []

-- an operator has the name of its invocation, after what stands in front of the names in its body
pub record IsNamed (unit : List Definition) (g : Graph) (op : Op) (prefix : List ℕ) : Type 0 where
  pub invocation : Invocation
  pub name : List ℕ
  pub there : invocation_at unit g.expansions op.site ≡ Some invocation
  pub own : IsName invocation name
  pub is : op.name ≡ prefix ++ name
