use Rattle.fault_kinds.proofs.Reacting.{makes_kinds, body_kinds, react_kinds}
use Rattle.fault_kinds.proofs.operators.operator_kinds_law.Goals as goal

pub returns : goal.returns
returns c = record { makes = makes_kinds; body = body_kinds; react = react_kinds }
