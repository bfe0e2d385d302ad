use Rattle.element_laws.proofs.Parts.{fit_law}
use Rattle.element_laws.proofs.laws.parts_law.Goals as goal

pub returns : goal.returns
returns c start = record { fit = fit_law _ _ }
