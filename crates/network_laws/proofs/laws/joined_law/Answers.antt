use Rattle.network_laws.proofs.Joining.{joined_law}
use Rattle.network_laws.proofs.Outcomes.{joined_gives_law, carried_law}
use Rattle.network_laws.proofs.Pouring.{poured_law}
use Rattle.network_laws.proofs.laws.joined_law.Goals as goal

pub returns-clause-links : goal.returns-clause-links
returns-clause-links c = joined_law

pub returns-clause-gives : goal.returns-clause-gives
returns-clause-gives c = joined_gives_law

pub returns-clause-carried : goal.returns-clause-carried
returns-clause-carried c = carried_law

pub returns-clause-poured : goal.returns-clause-poured
returns-clause-poured c = poured_law
