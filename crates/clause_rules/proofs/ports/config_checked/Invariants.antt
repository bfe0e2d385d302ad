use Rattle.std.proofs.Common.{◌≡◌, drop}
use Rattle.language_model.specs.Checking.{config_checked}
use Rattle.clause_rules.proofs.ports.config_checked.Given as goal

abbrev pub invariant-loop-entry : goal.invariant-loop-entry
invariant-loop-entry l = config_checked l.config ≡ config_checked (drop l.entry-index l.config)
