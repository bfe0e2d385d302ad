use Rattle.language_laws.proofs.BodyFitting.{body_fit_law}
use Rattle.language_laws.proofs.BodyReturning.{body_returns_law}
use Rattle.language_laws.proofs.checks.bodies_law.Goals as goal

pub returns-clause-fits : goal.returns-clause-fits
returns-clause-fits c = body_fit_law

pub returns-clause-returns : goal.returns-clause-returns
returns-clause-returns c = body_returns_law
