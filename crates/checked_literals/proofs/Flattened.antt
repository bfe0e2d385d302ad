-- The graph of a unit, by what is found of its parts.
use Rattle.std.specs.Prelude.{◌≡◌, List, [], None, Ok}
use Rattle.std.proofs.Common.{subst}
use Rattle.spl_tree.specs.declared.graph.Graph.{Graph}
use Rattle.spl_tree.specs.declared.unit.Composite.{Composite}
use Rattle.spl_tree.specs.declared.unit.Definition.{Definition}
use Rattle.language_model.specs.Declarations.{declared_twice}
use Rattle.language_model.specs.Flat as F
use Rattle.language_model.specs.Flat.{IsFlat, IsMain, flat_from}
use Rattle.language_model.specs.Recursion.{IsNotRecursive}
use Rattle.language_model.specs.Scopes.{At}

pub flat_as : (unit : List Definition) (main : At Composite) (g : Graph) → IsMain unit main → IsNotRecursive unit → declared_twice unit ≡ None
    → flat_from unit [] main ≡ Ok g → IsFlat unit [] (Ok g)
flat_as unit main g is_main not_recursive none_twice expands = subst (IsFlat unit []) expands (F.expands main none_twice is_main not_recursive)
