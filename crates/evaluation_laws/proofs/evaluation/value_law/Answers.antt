use Rattle.evaluation_laws.proofs.MoreTurns as turns
use Rattle.evaluation_laws.proofs.SameInputs as inputs
use Rattle.evaluation_laws.proofs.evaluation.value_law.Goals as goal

pub returns : goal.returns
returns g c = record { value = turns.value_turns; faults = turns.value_faults; names = inputs.agreement_law }
