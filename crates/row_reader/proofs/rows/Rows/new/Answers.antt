use Rattle.std.proofs.Common.{Some, ap}
use Rattle.row_reader.proofs.Settings.{new_unread}
use Rattle.row_reader.proofs.rows.Rows.new.Goals as goal

pub returns-clause-coming : goal.returns-clause-coming
returns-clause-coming c = λ s.
    ap Some (new_unread c.args.op c.in_ok-columns.columns.items c.args.schema.now c.args.strict c.args.limit s.ending c.new-2.result.items c.in_ok-piece.piece.items s.bytes c.new-2.ensures.items
    (rw c.as_slice.ensures at c.in_ok-columns.ensures))
