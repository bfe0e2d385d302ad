use Rattle.std.proofs.Common.{◌+◌, ◌∙◌, ap, length, refl, take, arith}
use Rattle.stream_model.specs.Rows.{Row}
use Rattle.row_reader.specs.Columns.{attributes}
use Rattle.row_reader.proofs.Records.{field_misfit, more_follow, no_field_yet, none_follow, record_more, too_few, too_many}
use Rattle.row_reader.proofs.Puts.{shortened}
use Rattle.row_reader.proofs.marked.read_record.Goals as goal

pub columns-init : goal.columns-init
columns-init c = record {
  within = omega (arith, c.requires.within);
  few = omega arith;
  room = omega arith;
  read = no_field_yet (attributes c.args.columns.now) c.args.text.now (take 0 c.args.tuple.now) c.args.from refl c.requires.starts;
}

pub returns-then-not-more : goal.returns-then-not-more
returns-then-not-more c = too_few c.args.columns.now c.args.text.now (take c.columns.place c.columns.tuple) c.columns.more c.columns.at c.columns.place c.columns-test.true c.if-not-more.true c.columns.invariant.read

pub returns-in-None : goal.returns-in-None
returns-in-None c =
    field_misfit c.args.columns.now c.args.text.now (take c.columns.place c.columns.tuple) c.columns.more c.columns.at c.columns.place _ c.columns-test.true c.if-not-more.false (rw c.in-None.is at c.in_ok-put_marked_field.ensures.put) c.columns.invariant.read

pub columns-preserved : goal.columns-preserved
columns-preserved c = record {
  within = omega (arith, c.next_place-at.ensures);
  few = omega (arith, c.columns-test.true);
  room = rw c.in-Some.is at c.in_ok-put_marked_field.ensures.room;
  read = record_more c.args.columns.now c.args.text.now (take c.columns.place c.columns.tuple) (take (c.columns.place + 1) c.put_marked_field.new.tuple) c.columns.more c.is_comma_at-more.result c.columns.at c.next_place-at.result c.columns.place c.in-Some.end _
      c.columns-test.true c.if-not-more.false (rw c.in-Some.is at c.in_ok-put_marked_field.ensures.put) c.is_comma_at-more.ensures c.next_place-at.ensures c.columns.invariant.read;
}

pub returns-then-more : goal.returns-then-more
returns-then-more c = too_many c.args.columns.now c.args.text.now (take c.columns.place c.columns.tuple) c.columns.more c.columns.at c.columns.place c.columns-test.false c.if-more.true c.columns.invariant.read

pub returns-then-behind_ends-text : goal.returns-then-behind_ends-text
returns-then-behind_ends-text c =
    more_follow c.args.columns.now c.args.text.now (take c.columns.place c.columns.tuple) c.columns.more c.columns.at c.columns.place c.behind_ends.result c.if-more.false c.behind_ends.ensures.same c.if-behind_ends-text.true (c.behind_ends.ensures.stop c.if-behind_ends-text.true) c.columns.invariant.read

pub returns : goal.returns
returns c =
    none_follow c.args.columns.now c.args.text.now (take c.columns.place c.columns.tuple) c.columns.more c.columns.at c.columns.place c.behind_ends.result c.columns-test.false c.if-more.false c.behind_ends.ensures.same
    c.if-behind_ends-text.false c.columns.invariant.read
    ∙ ap Row (shortened c.columns.tuple c.shorten.new.tuple c.columns.place (length c.args.columns.now) c.columns.invariant.few c.columns-test.false c.shorten.ensures)
