use Rattle.stream_model.proofs.ByPorts.{by_ports_law, waiting_law, port_end_law, single_ports_law}
use Rattle.stream_model.proofs.port_laws.ports_law.Goals as goal

pub returns-clause-by_ports : goal.returns-clause-by_ports
returns-clause-by_ports c = by_ports_law

pub returns-clause-waiting : goal.returns-clause-waiting
returns-clause-waiting c = waiting_law

pub returns-clause-ends : goal.returns-clause-ends
returns-clause-ends c = port_end_law

pub returns-clause-single : goal.returns-clause-single
returns-clause-single c = single_ports_law
