use Rattle.std.proofs.Common.{◌≡◌, take}
use Rattle.body_rules.specs.steps.Signatures.{with_parameters}
use Rattle.body_rules.proofs.functions.add_parameters.Given as goal

abbrev pub invariant-loop-parameter : goal.invariant-loop-parameter
invariant-loop-parameter l = l.scope ≡ with_parameters l.initial.scope (take l.parameter-index l.parameters)
