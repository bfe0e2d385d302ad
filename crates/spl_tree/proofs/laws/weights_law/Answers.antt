use Rattle.spl_tree.proofs.WeightLaws.{weights_law, shallow_law}
use Rattle.spl_tree.proofs.laws.weights_law.Goals as goal

pub returns-clause-each : goal.returns-clause-each
returns-clause-each c = weights_law

pub returns-clause-shallow : goal.returns-clause-shallow
returns-clause-shallow c = shallow_law
