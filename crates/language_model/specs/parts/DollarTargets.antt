-- Words for parts of the rules of what `$` parameters mean, for what works them out step by step.
use Rattle.std.specs.Prelude.{List, length}
use Rattle.spl_tree.specs.declared.graph.Expansion.{Expansion}
use Rattle.spl_tree.specs.declared.unit.Definition.{Definition}
use Rattle.spl_tree.specs.Trees.{Expr}
use Rattle.language_model.specs.DollarTargets.{Target, arguments_of, heads_of, parameter_target, target}

-- an expression in the body of an expansion
abbrev pub target_in : List Definition → List Expansion → Expansion → Expr → Target
target_in unit expansions x e = target (parameter_target (length (heads_of unit x)) (heads_of unit x) (arguments_of unit expansions x)) e
