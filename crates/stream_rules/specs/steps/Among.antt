-- A graph with the table of its streams.
use Rattle.std.specs.Prelude.{List}
use Rattle.spl_tree.specs.declared.graph.Graph.{Graph}
use Rattle.spl_tree.specs.declared.unit.Definition.{Definition}
use Rattle.stream_rules.specs.Streams.{IsTableOf}
use Rattle.stream_rules.specs.declared.ports.standing.Streams.{Streams}

abbrev pub unit_of : Streams → List Definition
unit_of s = s.sites.now.unit.now

abbrev pub graph_of : Streams → Graph
graph_of s = s.graph.now

abbrev pub Hold : Streams → Type 0
Hold s = IsTableOf (unit_of s) (graph_of s) s.table.now
