use Rattle.network_laws.proofs.Flowing.{progress_flow_law, settled_flow_law, joined_are_in_progress}
use Rattle.network_laws.proofs.Ending.{legal_are_in_progress, legal_joins}
use Rattle.network_laws.proofs.laws.flow_law.Goals as goal

pub returns-clause-progress : goal.returns-clause-progress
returns-clause-progress c = progress_flow_law

pub returns-clause-settled : goal.returns-clause-settled
returns-clause-settled c = settled_flow_law

pub returns-clause-joined : goal.returns-clause-joined
returns-clause-joined c = joined_are_in_progress

pub returns-clause-legal : goal.returns-clause-legal
returns-clause-legal c = legal_are_in_progress

pub returns-clause-ends : goal.returns-clause-ends
returns-clause-ends c = legal_joins
