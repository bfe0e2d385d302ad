use Rattle.op_kit.specs.contracts.operator.calls.OperatorReact.TheImpl as kit
use Rattle.op_kit.proofs.Making.{MadeBefore}
use Rattle.op_kit.proofs.operators.operators_of.Given as goal

-- an operator for each number before this one
abbrev pub invariant-operators : goal.invariant-operators
invariant-operators l = MadeBefore kit.spec-value.it kit.stands-value.it l.checked l.number l.operators
