-- Words for parts of the numbering of streams.
use Rattle.std.specs.Prelude.{List}
use Rattle.spl_tree.specs.declared.unit.Composite.{Composite}
use Rattle.language_model.specs.Numbering.{Output, outputs_from}

-- those of the names of the streams that a graph makes, in the order of the text
abbrev pub graph_outputs : Composite → List Output
graph_outputs c = outputs_from 0 c.graph
