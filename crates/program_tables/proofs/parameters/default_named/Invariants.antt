use Rattle.std.proofs.Common.{◌≡◌, drop}
use Rattle.language_model.specs.DollarTargets.{default_named}
use Rattle.program_tables.proofs.parameters.default_named.Given as goal

abbrev pub invariant-loop-head : goal.invariant-loop-head
invariant-loop-head l = default_named l.heads l.name ≡ default_named (drop l.head-index l.heads) l.name
