-- The topological order of a graph: again and again the first operator that stands there not yet, and whose streams are all made by those
-- that do.
use Rattle.std.specs.Prelude.{◌≡◌, ◌<◌, ◌↔◌, ℕ, List, ◌∷◌, ◌++◌, length, Some, slice_get}
use Rattle.std.specs.List.{concat, Contains}
use Rattle.spl_tree.specs.declared.graph.Graph.{Graph}
use Rattle.spl_tree.specs.declared.graph.Op.{Op}
use Rattle.spl_tree.specs.declared.graph.Stream.{Stream}

-- each stream that an operator takes is made by one of these
abbrev pub IsFed : Graph → List ℕ → Op → Type 0
IsFed g before op = (number : ℕ) → Contains (concat op.ins) number → (s : Stream) × (slice_get g.streams number ≡ Some s) × Contains before s.maker

-- the first operator that isn't among these and takes streams of these alone
pub record IsNext (g : Graph) (before : List ℕ) (n : ℕ) : Type 0 where
  pub op : Op
  pub there : slice_get g.ops n ≡ Some op
  pub new : Contains before n → ⊥
  pub fed : IsFed g before op
  pub first : (m : ℕ) (o : Op) → m < n → slice_get g.ops m ≡ Some o → (Contains before m → ⊥) → IsFed g before o → ⊥

pub record IsTheOrder (g : Graph) (order : List ℕ) : Type 0 where
  pub all : (n : ℕ) → Contains order n ↔ (n < length g.ops)
  pub next : (before after : List ℕ) (n : ℕ) → order ≡ before ++ n ∷ after → IsNext g before n
