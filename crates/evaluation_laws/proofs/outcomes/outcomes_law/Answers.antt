use Rattle.evaluation_laws.proofs.FittingOutcomes.{value_not_stuck, runs_not_stuck}
use Rattle.evaluation_laws.proofs.outcomes.outcomes_law.Goals as goal

pub returns : goal.returns
returns c = record { values = value_not_stuck; bodies = runs_not_stuck }
