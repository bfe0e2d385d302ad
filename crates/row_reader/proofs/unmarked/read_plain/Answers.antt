use Rattle.std.proofs.Common.{ap, ◌+◌, ◌∙◌, length, take, arith}
use Rattle.stream_model.specs.Rows.{Row}
use Rattle.row_reader.specs.Columns.{attributes}
use Rattle.row_reader.proofs.Cutting.{all_read, columns_all, next_field, last_field, tail_short}
use Rattle.row_reader.proofs.Puts.{shortened}
use Rattle.row_reader.proofs.unmarked.read_plain.Goals as goal
use Rattle.row_reader.proofs.unmarked.read_plain.Goals.{then-end-rest, else-end-rest}

pub columns-preserved : goal.columns-preserved
columns-preserved c =
    let before = c.columns.invariant in
    let put = rw c.in-Some.is at c.in_ok-end.ensures in
    elim c.if-end-rest.branch [
      | then-end-rest w ↦ record {
        size = tail_short c.args.line.now c.columns.rest.now c.if-end-rest.rest.now (c.in-Some.end + 1) before.size (ap (λ r. r.now) w.rest-is);
        few = omega (arith, c.columns-test.true);
        room = put.put.room;
        read = next_field c.args.columns.now c.args.line.now c.columns.rest.now c.if-end-rest.rest.now c.columns.tuple c.put_first.new.tuple c.columns.more c.if-end-rest.more
            c.columns.at c.in-Some.end _ c.columns-test.true put w.if-end-rest.true c.if-not-more.false w.more-is (ap (λ r. r.now) w.rest-is) before.read;
      }
      | else-end-rest w ↦ record {
        size = rw (ap (λ r. r.now) w.rest-is) before.size;
        few = omega (arith, c.columns-test.true);
        room = put.put.room;
        read = last_field c.args.columns.now c.args.line.now c.columns.rest.now c.if-end-rest.rest.now c.columns.tuple c.put_first.new.tuple c.columns.more c.if-end-rest.more
            c.columns.at c.in-Some.end _ c.columns-test.true put w.if-end-rest.false c.if-not-more.false w.more-is (ap (λ r. r.now) w.rest-is) before.read;
      }
    ]

pub returns : goal.returns
returns c = λ plain.
    all_read (attributes c.args.columns.now) c.args.line.now c.columns.rest.now (take c.columns.at c.columns.tuple) c.columns.more c.columns.at (omega (arith, c.columns-test.false, columns_all c.args.columns.now)) plain
    c.requires.some c.requires.mark c.columns.invariant.read
    ∙ ap Row (shortened c.columns.tuple c.shorten.new.tuple c.columns.at (length c.args.columns.now) c.columns.invariant.few c.columns-test.false c.shorten.ensures)
