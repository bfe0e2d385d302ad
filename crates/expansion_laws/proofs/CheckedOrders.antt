-- A checked graph of a unit has the topological order of the unit's graph.
use Rattle.std.specs.Prelude.{◌≡◌, ℕ, List, length, Ok}
use Rattle.std.proofs.Common.{refl, subst, sym}
use Rattle.spl_tree.specs.declared.graph.Graph.{Graph}
use Rattle.spl_tree.specs.declared.unit.Definition.{Definition}
use Rattle.language_model.specs.CheckedGraph.{CheckedGraph}
use Rattle.language_model.specs.Checking.{checked}
use Rattle.language_model.specs.parts.Checking.{each_stream, operators_checked}
use Rattle.language_model.specs.FunctionTyping.{functions_typing}
use Rattle.language_model.specs.Numbering.{numbers_from}
use Rattle.language_model.specs.Parameters.{dollar_tables}
use Rattle.language_model.specs.Typing.{after}
use Rattle.language_model.proofs.FoundAnswers.{Gives, gives_from, gives_then}
use Rattle.expansion_laws.specs.Laws.{CheckedOrderLaw, OrderLaw, SameGraphLaw}
use Rattle.expansion_laws.specs.Order.{IsTheOrder}

abbrev HasGraph : Graph → CheckedGraph → Type 0
HasGraph g c = c.graph ≡ g

checked_has : (unit : List Definition) (g : Graph) → Gives (HasGraph g) (checked unit g)
checked_has unit g =
    gives_then (HasGraph g) (functions_typing unit) (λ functions. after (operators_checked unit g (dollar_tables unit g.expansions) g.ops) (λ parts.
    after (each_stream unit g (numbers_from 0 (length g.streams))) (λ schemas.
    Ok (record { graph = g; schemas = schemas; functions = functions; parts = parts })))) (λ functions e.
    gives_then (HasGraph g) (operators_checked unit g (dollar_tables unit g.expansions) g.ops) (λ parts. after (each_stream unit g (numbers_from 0 (length g.streams))) (λ schemas.
    Ok (record { graph = g; schemas = schemas; functions = functions; parts = parts }))) (λ parts f.
    gives_then (HasGraph g) (each_stream unit g (numbers_from 0 (length g.streams))) (λ schemas.
    Ok (record { graph = g; schemas = schemas; functions = functions; parts = parts })) (λ schemas h. refl)))

pub same_graph : SameGraphLaw
same_graph unit g c e = gives_from (HasGraph g) (checked unit g) c (checked_has unit g) e

pub checked_order : OrderLaw → CheckedOrderLaw
checked_order law unit names g c flat e =
    subst (λ (g : Graph). IsTheOrder g g.topo × ((order : List ℕ) → IsTheOrder g order → order ≡ g.topo)) (sym (same_graph unit g c e)) (law unit names g flat)
