use Rattle.network_laws.proofs.Propers.{stream_proper, joined_proper, legal_proper}
use Rattle.network_laws.proofs.Schemas.{runs_proper}
use Rattle.network_laws.proofs.laws.proper_law.Goals as goal

pub returns-clause-joined : goal.returns-clause-joined
returns-clause-joined c = joined_proper

pub returns-clause-legal : goal.returns-clause-legal
returns-clause-legal c = legal_proper

pub returns-clause-stream : goal.returns-clause-stream
returns-clause-stream c = stream_proper

pub returns-clause-runs : goal.returns-clause-runs
returns-clause-runs c = runs_proper
