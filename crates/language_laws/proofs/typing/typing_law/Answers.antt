use Rattle.language_model.proofs.Wanting.{wanted_law}
use Rattle.language_laws.proofs.Fitting.{fit_law}
use Rattle.language_laws.proofs.typing.typing_law.Goals as goal

pub returns-clause-wanted : goal.returns-clause-wanted
returns-clause-wanted c = wanted_law

pub returns-clause-fits : goal.returns-clause-fits
returns-clause-fits c = fit_law
