-- What is answered of a unit.
use Rattle.std.specs.Prelude.{ℕ, List, Result, Ok, Err}
use Rattle.spl_tree.specs.declared.graph.Graph.{Graph}
use Rattle.spl_tree.specs.declared.unit.Definition.{Definition}
use Rattle.language_model.specs.Flat.{IsFlat}
use Rattle.composite_expand.specs.declared.answer.ExpandAnswer.{ExpandAnswer}
use Rattle.composite_expand.specs.declared.answer.ExpandAnswer.TheVariants as X

-- the graph, or the first refusal, where there was memory
abbrev pub Expands : List Definition → List (List ℕ) → Result Graph ExpandAnswer → Type 0
Expands unit names (Ok g) = IsFlat unit names (Ok g)
Expands unit names (Err (X.Refused r)) = IsFlat unit names (Err r)
Expands unit names (Err X.Memory) = Unit {0}
