-- What the checks of a unit's graph give.
use Rattle.std.specs.Prelude.{◌≡◌, ℕ, List, Ok}
use Rattle.spl_tree.specs.declared.graph.Graph.{Graph}
use Rattle.spl_tree.specs.declared.unit.Definition.{Definition}
use Rattle.language_model.specs.CheckedGraph.{CheckedGraph}
use Rattle.language_model.specs.Checking.{checked}
use Rattle.language_model.specs.Flat.{IsFlat}
use Rattle.language_model.specs.Keeping.{Keeps}

-- what is found of the graph of a unit keeps what a checked graph has to keep
abbrev pub KeepsLaw : Type 0
KeepsLaw = (unit : List Definition) (names : List (List ℕ)) (g : Graph) (c : CheckedGraph) → IsFlat unit names (Ok g) → checked unit g ≡ Ok c → Keeps c
