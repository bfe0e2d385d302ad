use Rattle.network_laws.proofs.Outcomes.{legal_law, plain_law, moment_law}
use Rattle.network_laws.proofs.laws.legal_law.Goals as goal

pub returns-clause-joined : goal.returns-clause-joined
returns-clause-joined c = legal_law

pub returns-clause-plain : goal.returns-clause-plain
returns-clause-plain c = plain_law

pub returns-clause-moment : goal.returns-clause-moment
returns-clause-moment c = moment_law
