use Rattle.std.proofs.Common.{◌≤◌, length, take}
use Rattle.row_reader.specs.Columns.{attributes}
use Rattle.row_reader.proofs.Cutting.{ReadSoFar}
use Rattle.row_reader.proofs.unmarked.read_plain.Given as goal

abbrev pub invariant-columns : goal.invariant-columns
invariant-columns l = record {
  size : length l.rest ≤ length l.line;
  few : l.at ≤ length l.columns;
  room : l.at ≤ length l.tuple;
  read : ReadSoFar (attributes l.columns) l.line (take l.at l.tuple) l.more l.rest l.at;
}
