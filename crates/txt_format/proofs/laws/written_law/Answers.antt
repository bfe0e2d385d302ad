use Rattle.txt_format.proofs.Written.{written_spells}
use Rattle.txt_format.proofs.laws.written_law.Goals as goal

pub returns : goal.returns
returns c = written_spells
