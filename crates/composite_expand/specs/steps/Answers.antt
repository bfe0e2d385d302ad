-- What is answered of what is found.
use Rattle.std.specs.Prelude.{◌≡◌, Result, Ok, Err}
use Rattle.spl_tree.specs.declared.graph.Graph.{Graph}
use Rattle.language_model.specs.Expansion.{Expanded}
use Rattle.composite_expand.specs.declared.answer.ExpandAnswer.{ExpandAnswer}
use Rattle.composite_expand.specs.declared.answer.ExpandAnswer.TheVariants as X

-- the graph, or its refusal, where there was memory
abbrev pub IsAnswer : Expanded Graph → Result Graph ExpandAnswer → Type 0
IsAnswer found (Ok g) = found ≡ Ok g
IsAnswer found (Err (X.Refused r)) = found ≡ Err r
IsAnswer found (Err X.Memory) = Unit {0}
