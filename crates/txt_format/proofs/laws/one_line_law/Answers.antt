use Rattle.txt_format.proofs.OneLine.{one_line}
use Rattle.txt_format.proofs.laws.one_line_law.Goals as goal

pub returns : goal.returns
returns c = one_line
