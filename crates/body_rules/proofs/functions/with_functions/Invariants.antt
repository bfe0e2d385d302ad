use Rattle.std.proofs.Common.{◌≡◌, take}
use Rattle.body_rules.specs.steps.Signatures.{scope_in}
use Rattle.written_types.specs.TypeScopes.{types_in}
use Rattle.body_rules.proofs.functions.with_functions.Given as goal

abbrev pub invariant-loop-definition : goal.invariant-loop-definition
invariant-loop-definition l = l.scope ≡ scope_in (types_in l.types) (take l.definition-index l.unit)
