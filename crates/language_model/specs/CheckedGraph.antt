-- A graph with its types and clauses.
use Rattle.std.specs.Prelude.{List}
use Rattle.spl_tree.specs.declared.body.Function.{Function}
use Rattle.spl_tree.specs.declared.graph.Graph.{Graph}
use Rattle.spl_value.specs.declared.types.Named.{Named}
use Rattle.spl_value.specs.declared.types.SplType.{SplType}
use Rattle.language_model.specs.declared.checked.CheckedClauses.{CheckedClauses}

-- the graph, the attributes of each stream, the functions of the program in the order of the text, and the clauses of
-- each operator
pub record CheckedGraph : Type 0 where
  pub graph : Graph
  pub schemas : List (List (Named SplType))
  pub functions : List Function
  pub parts : List CheckedClauses
