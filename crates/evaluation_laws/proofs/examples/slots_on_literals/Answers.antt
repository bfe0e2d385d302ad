use Rattle.evaluation_laws.proofs.TwoStatements.{slots_of_two}
use Rattle.evaluation_laws.proofs.examples.slots_on_literals.Goals as goal

pub returns : goal.returns
returns c = record { row = slots_of_two }
