use Rattle.fault_kinds.proofs.Functions.{statement_kinds, function_kinds, runs_kinds}
use Rattle.fault_kinds.proofs.evaluation.bodies_kinds_law.Goals as goal

pub returns : goal.returns
returns c = record { statements = statement_kinds; functions = function_kinds; bodies = runs_kinds }
