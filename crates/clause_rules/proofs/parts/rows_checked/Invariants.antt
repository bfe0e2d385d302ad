use Rattle.std.proofs.Common.{◌≡◌, drop, map}
use Rattle.clause_rules.specs.steps.Operators.{rows_of_schemas}
use Rattle.clause_rules.proofs.parts.rows_checked.Given as goal

abbrev pub invariant-loop-port : goal.invariant-loop-port
invariant-loop-port l = rows_of_schemas l.at (map (λ p. p.schema) l.ports) ≡ rows_of_schemas l.at (map (λ p. p.schema) (drop l.port-index l.ports))
