-- Which streams lead back to themselves, where each has the type of another one.
use Rattle.std.specs.Prelude.{◌≡◌, ℕ, Bool, false, List, length, slice_index_or}
use Rattle.spl_tree.specs.declared.graph.Graph.{Graph}
use Rattle.spl_tree.specs.declared.unit.Definition.{Definition}
use Rattle.language_model.specs.Leading.{leads_back}
use Rattle.language_model.specs.StreamTypes.{stream_leads}

abbrev pub flag_at : List Bool → ℕ → Bool
flag_at flags place = slice_index_or flags place false

-- which places lead back to themselves
abbrev pub TellsBack : ℕ → (ℕ → List ℕ) → List Bool → Type 0
TellsBack count f flags = (place : ℕ) → flag_at flags place ≡ leads_back count f place

-- which streams lead back to themselves
abbrev pub TellsStreams : List Definition → Graph → List Bool → Type 0
TellsStreams unit g flags = TellsBack (length g.streams) (stream_leads unit g) flags
