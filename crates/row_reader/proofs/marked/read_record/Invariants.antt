use Rattle.std.proofs.Common.{◌≤◌, length, take}
use Rattle.row_reader.specs.Columns.{attributes}
use Rattle.row_reader.proofs.Records.{RecordSoFar}
use Rattle.row_reader.proofs.marked.read_record.Given as goal

abbrev pub invariant-columns : goal.invariant-columns
invariant-columns l = record {
  within : l.at ≤ length l.text;
  few : l.place ≤ length l.columns;
  room : l.place ≤ length l.tuple;
  read : RecordSoFar (attributes l.columns) l.text (take l.place l.tuple) l.more l.at l.place;
}
