use Rattle.stream_model.proofs.PlainLines.{empty_line}
use Rattle.row_reader.specs.Columns.{attributes}
use Rattle.row_reader.proofs.lines.read_line.Goals as goal

pub returns-then-is_empty : goal.returns-then-is_empty
returns-then-is_empty c = empty_line (attributes c.args.columns.now) c.args.line.now c.if-is_empty.ensures
