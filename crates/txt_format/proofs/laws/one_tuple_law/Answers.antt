use Rattle.txt_format.proofs.Rows.{one_tuple}
use Rattle.txt_format.proofs.laws.one_tuple_law.Goals as goal

pub returns : goal.returns
returns c = one_tuple
