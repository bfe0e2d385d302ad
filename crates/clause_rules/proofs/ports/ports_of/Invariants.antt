use Rattle.std.proofs.Common.{◌≡◌}
use Rattle.language_model.specs.Checking.{port_name}
use Rattle.clause_rules.specs.steps.Operators.{named}
use Rattle.clause_rules.proofs.ports.ports_of.Given as goal

abbrev pub invariant-loop-schema : goal.invariant-loop-schema
invariant-loop-schema l = l.ports ≡ named (λ q. port_name q) l.inputs l.yielded
