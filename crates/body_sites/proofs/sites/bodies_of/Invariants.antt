use Rattle.std.proofs.Common.{◌≡◌, map, ◌++◌, drop}
use Rattle.language_model.specs.Composites.{composites}
use Rattle.body_sites.proofs.sites.bodies_of.Given as goal

abbrev pub invariant-loop-definition : goal.invariant-loop-definition
invariant-loop-definition l = composites l.unit ≡ map (λ b. b.composite.now) l.bodies.items ++ composites (drop l.definition-index l.unit)
