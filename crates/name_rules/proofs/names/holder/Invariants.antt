use Rattle.std.proofs.Common.{◌≡◌, ◌≤◌, ◌-◌, length, drop}
use Rattle.language_model.specs.Scopes.{attributes_from}
use Rattle.name_rules.proofs.names.holder.Given as goal

abbrev pub invariant-ports : goal.invariant-ports
invariant-ports l = record {
  within : l.at ≤ length l.ports;
  holds : attributes_from l.from (drop l.from l.ports) l.name ≡ attributes_from l.at (drop l.at l.ports) l.name;
}

abbrev pub decreases-ports : goal.decreases-ports
decreases-ports l = length l.ports - l.at
