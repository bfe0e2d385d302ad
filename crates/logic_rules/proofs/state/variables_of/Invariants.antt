use Rattle.std.proofs.Common.{◌≡◌, map, take}
use Rattle.logic_rules.proofs.state.variables_of.Given as goal

abbrev pub invariant-loop-variable : goal.invariant-loop-variable
invariant-loop-variable l = l.variables ≡ map (λ x. x.variable) (take l.variable-index l.state)
