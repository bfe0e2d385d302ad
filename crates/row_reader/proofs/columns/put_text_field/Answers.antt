use Rattle.row_reader.proofs.FieldValues.{a_text}
use Rattle.row_reader.proofs.columns.put_text_field.Goals as goal

pub returns : goal.returns
returns c = a_text c.args.field.now c.args.at c.args.tuple.now c.put_text.new.tuple c.in_ok-put_text.ensures
