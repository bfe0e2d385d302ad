use Rattle.network_laws.proofs.Joining.{settled_law, meet_law, flow_law}
use Rattle.network_laws.proofs.Outcomes.{settled_gives_law, whole_law}
use Rattle.network_laws.proofs.laws.settled_law.Goals as goal

pub returns-clause-links : goal.returns-clause-links
returns-clause-links c = settled_law

pub returns-clause-gives : goal.returns-clause-gives
returns-clause-gives c = settled_gives_law

pub returns-clause-whole : goal.returns-clause-whole
returns-clause-whole c = whole_law

pub returns-clause-meets : goal.returns-clause-meets
returns-clause-meets c = meet_law

pub returns-clause-flows : goal.returns-clause-flows
returns-clause-flows c = flow_law
