use Rattle.fault_kinds.proofs.Functions.{value_kinds}
use Rattle.fault_kinds.proofs.evaluation.value_kinds_law.Goals as goal

pub returns : goal.returns
returns g c = value_kinds
