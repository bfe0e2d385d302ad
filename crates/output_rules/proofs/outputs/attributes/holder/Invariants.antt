use Rattle.std.proofs.Common.{◌≡◌, ◌≤◌, ◌-◌, length, drop, map}
use Rattle.output_rules.specs.steps.Indexed.{attributes_in}
use Rattle.output_rules.proofs.outputs.attributes.holder.Given as goal

abbrev pub invariant-ports : goal.invariant-ports
invariant-ports l = record {
  within : l.at ≤ length l.ports;
  holds :
      attributes_in l.from (drop l.from (map (λ x. x.schema.now) l.ports)) l.name
      ≡ attributes_in l.at (drop l.at (map (λ x. x.schema.now) l.ports)) l.name;
}

abbrev pub decreases-ports : goal.decreases-ports
decreases-ports l = length l.ports - l.at
