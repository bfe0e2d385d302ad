-- What the checked graph of a unit says of files.
use Rattle.std.specs.Prelude.{◌≡◌, ℕ, List, Ok}
use Rattle.spl_tree.specs.declared.graph.Graph.{Graph}
use Rattle.spl_tree.specs.declared.unit.Definition.{Definition}
use Rattle.language_model.specs.CheckedGraph.{CheckedGraph}
use Rattle.language_model.specs.Checking.{checked}
use Rattle.language_model.specs.Flat.{IsFlat}
use Rattle.language_model.specs.Files.{OwnFiles}

-- each sink has a file of its own, and none of these names, in what is found of the graph of a unit
abbrev pub OwnFilesLaw : Type 0
OwnFilesLaw = (unit : List Definition) (names : List (List ℕ)) (g : Graph) (c : CheckedGraph) → IsFlat unit names (Ok g) → checked unit g ≡ Ok c → OwnFiles names c.parts
