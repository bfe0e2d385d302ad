use Rattle.stream_model.proofs.Keyed.{keyed_law}
use Rattle.stream_model.proofs.Stateless.{stateless_law}
use Rattle.stream_model.proofs.plan_laws.regions_law.Goals as goal

pub returns-clause-stateless : goal.returns-clause-stateless
returns-clause-stateless c = stateless_law

pub returns-clause-keyed : goal.returns-clause-keyed
returns-clause-keyed c = keyed_law
