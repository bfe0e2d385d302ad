use Rattle.txt_format.proofs.Fitting.{fitting}
use Rattle.txt_format.proofs.laws.fitting_law.Goals as goal

pub returns : goal.returns
returns c = fitting
