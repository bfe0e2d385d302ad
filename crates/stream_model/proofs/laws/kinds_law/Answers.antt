use Rattle.stream_model.proofs.KindBodies.{body_law, body_ports, sink_ports}
use Rattle.stream_model.proofs.laws.kinds_law.Goals as goal

pub returns-clause-items : goal.returns-clause-items
returns-clause-items c = body_law

pub returns-clause-ports : goal.returns-clause-ports
returns-clause-ports c = body_ports

pub returns-clause-sinks : goal.returns-clause-sinks
returns-clause-sinks c = sink_ports
