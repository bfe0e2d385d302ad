use Rattle.row_reader.specs.Columns.{type_of}
use Rattle.row_reader.proofs.Puts.{first_put}
use Rattle.row_reader.proofs.unmarked.put_cut.Goals as goal

pub returns-then-branch : goal.returns-then-branch
returns-then-branch c =
    first_put (type_of c.args.column) c.args.line.now c.args.at c.in-Some.end c.args.tuple.now c.put_field.new.tuple c.in_ok-put_field.field-0 c.in-Some.ensures c.in_ok-put_field.ensures c.if-branch.true
