-- What a table of streams holds.
use Rattle.std.specs.Prelude.{List}
use Rattle.spl_tree.specs.declared.graph.Graph.{Graph}
use Rattle.spl_tree.specs.declared.unit.Definition.{Definition}
use Rattle.stream_rules.specs.FoundStreams.{AreFound}
use Rattle.stream_rules.specs.Circles.{TellsStreams}
use Rattle.stream_rules.specs.declared.streams.StreamTable.{StreamTable}

-- the attributes of each stream of the graph, or its refusal, and which streams lead back to themselves
pub record IsTableOf (unit : List Definition) (g : Graph) (t : StreamTable) : Type 0 where
  pub found : AreFound unit g t.found.items
  pub back : TellsStreams unit g t.back.items
