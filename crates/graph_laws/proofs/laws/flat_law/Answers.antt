use Rattle.graph_laws.proofs.Flattening.{maker_law}
use Rattle.graph_laws.proofs.Inlining.{operator_law}
use Rattle.graph_laws.proofs.KeptInvocations.{whole_law}
use Rattle.graph_laws.proofs.OneFlat.{one_flat_law}
use Rattle.graph_laws.proofs.Ordering.{topo_law, connected_law}
use Rattle.graph_laws.proofs.laws.flat_law.Goals as goal

pub returns-clause-one : goal.returns-clause-one
returns-clause-one c = one_flat_law

pub returns-clause-operators : goal.returns-clause-operators
returns-clause-operators c = operator_law

pub returns-clause-whole : goal.returns-clause-whole
returns-clause-whole c = whole_law

pub returns-clause-makers : goal.returns-clause-makers
returns-clause-makers c = maker_law

pub returns-clause-in_order : goal.returns-clause-in_order
returns-clause-in_order c = topo_law

pub returns-clause-connected : goal.returns-clause-connected
returns-clause-connected c = connected_law
