use Rattle.std.proofs.Common.{◌≡◌, ◌≤◌, take, count_by}
use Rattle.feed_pour.specs.Contents.{PouredSoFar}
use Rattle.stream_model.specs.Rows.{text_of}
use Rattle.stream_model.specs.Stream.{is_tuple}
use Rattle.row_writer.proofs.writer.RowWriter.put_all.Given as goal

abbrev pub invariant-loop-item : goal.invariant-loop-item
invariant-loop-item g l = record {
  poured : PouredSoFar ((g.P.Pour).poured l.initial.pour) ((g.P.Pour).poured l.pour) (text_of (take l.item-index l.items));
  count : l.tuples ≡ count_by is_tuple (take l.item-index l.items);
  small : l.tuples ≤ l.item-index;
  faults : (g.P.Pour).faults l.pour ≡ (g.P.Pour).faults l.initial.pour;
}
