-- What is found for each stream of a graph.
use Rattle.std.specs.Prelude.{◌≡◌, ℕ, ◌<◌, List, length, Some, slice_get}
use Rattle.spl_tree.specs.declared.graph.Graph.{Graph}
use Rattle.spl_tree.specs.declared.unit.Definition.{Definition}
use Rattle.language_model.specs.StreamTypes.{Attributes, stream_attributes}
use Rattle.language_model.specs.Typing.{Found}

-- the attributes of each, or its refusal
pub record AreFound (unit : List Definition) (g : Graph) (all : List (Found Attributes)) : Type 0 where
  pub size : length all ≡ length g.streams
  pub each : (s : ℕ) → s < length g.streams → slice_get all s ≡ Some (stream_attributes unit g s)
