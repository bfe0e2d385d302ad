use Rattle.row_writer.proofs.Putting.{rows_failed}
use Rattle.row_writer.proofs.writer.RowWriter.put_all.Goals as goal

pub returns-in-Err-clause-poured : goal.returns-in-Err-clause-poured
returns-in-Err-clause-poured g c =
    rows_failed _ _ _ c.args.items.now c.loop-item.item-index c.item-item.result c.in-Err.e c.loop-item-test.true c.item-item.is c.loop-item.invariant.poured
    (rw c.in-Tuple.is c.in-Err.ensures.poured)
