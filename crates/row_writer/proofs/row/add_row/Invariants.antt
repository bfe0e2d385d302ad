use Rattle.std.proofs.Common.{◌≡◌, ◌==◌, take, map}
use Rattle.std.specs.Prelude.{not}
use Rattle.csv.specs.Writing.{default_writer, row_body}
use Rattle.stream_model.specs.parts.Fields.{field_of}
use Rattle.row_writer.proofs.row.add_row.Given as goal

abbrev pub invariant-loop-value : goal.invariant-loop-value
invariant-loop-value l = record {
  text : l.row.items ≡ row_body default_writer (map field_of (take l.value-index l.tuple));
  first : l.later ≡ not (l.value-index == 0);
}
