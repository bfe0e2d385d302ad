use Rattle.evaluation_laws.proofs.OneCall.{seven_taken, seven_wanted, zero_faulted, name_stuck}
use Rattle.evaluation_laws.proofs.examples.turns_on_literals.Goals as goal

pub returns : goal.returns
returns c = record { taken = seven_taken; wanted = seven_wanted; fault = zero_faulted; stuck = name_stuck }
