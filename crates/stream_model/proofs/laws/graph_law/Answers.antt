use Rattle.stream_model.proofs.Graphs.{graph_law, events_law, topo_events_law}
use Rattle.stream_model.proofs.laws.graph_law.Goals as goal

pub returns-clause-streams : goal.returns-clause-streams
returns-clause-streams c = graph_law

pub returns-clause-events : goal.returns-clause-events
returns-clause-events c = events_law

pub returns-clause-in_order : goal.returns-clause-in_order
returns-clause-in_order c = topo_events_law
