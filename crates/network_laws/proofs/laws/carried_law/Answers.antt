use Rattle.network_laws.proofs.Carrying.{carried_front, carried_once, carried_progress, carried_there, flows_carried, settled_carried}
use Rattle.network_laws.proofs.laws.carried_law.Goals as goal

pub returns-clause-once : goal.returns-clause-once
returns-clause-once c = carried_once

pub returns-clause-flows : goal.returns-clause-flows
returns-clause-flows c = flows_carried

pub returns-clause-front : goal.returns-clause-front
returns-clause-front c = carried_front

pub returns-clause-progress : goal.returns-clause-progress
returns-clause-progress c = carried_progress

pub returns-clause-there : goal.returns-clause-there
returns-clause-there c = carried_there

pub returns-clause-settled : goal.returns-clause-settled
returns-clause-settled c = settled_carried
