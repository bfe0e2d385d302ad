use Rattle.std.proofs.Common.{◌≡◌, map, ◌++◌, drop}
use Rattle.language_model.specs.Composites.{composites}
use Rattle.program_tables.proofs.sites.composites_of.Given as goal

abbrev pub invariant-loop-definition : goal.invariant-loop-definition
invariant-loop-definition l = composites l.unit ≡ map (λ c. c.now) l.bodies.items ++ composites (drop l.definition-index l.unit)
