use Rattle.std.proofs.Common.{◌≡◌}
use Rattle.clause_rules.specs.steps.Operators.{named}
use Rattle.clause_rules.proofs.ports.outputs_of.Given as goal

abbrev pub invariant-loop-schema : goal.invariant-loop-schema
invariant-loop-schema l = l.ports ≡ named (λ o. o.name.what) l.outputs l.yielded
