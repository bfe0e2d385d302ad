use Rattle.std.proofs.Common.{◌≡◌, drop}
use Rattle.language_model.specs.DollarTargets.{value_named}
use Rattle.program_tables.proofs.parameters.value_named.Given as goal

abbrev pub invariant-loop-parameter : goal.invariant-loop-parameter
invariant-loop-parameter l = value_named l.parameters l.name ≡ value_named (drop l.parameter-index l.parameters) l.name
