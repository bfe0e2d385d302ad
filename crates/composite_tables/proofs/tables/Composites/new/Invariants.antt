use Rattle.std.proofs.Common.{◌≡◌, map, take}
use Rattle.language_model.specs.Composites.{composites}
use Rattle.program_tables.specs.Names.{HoldsNames}
use Rattle.composite_tables.specs.Names.{composite_names}
use Rattle.composite_tables.proofs.tables.Composites.new.Given as goal

abbrev pub invariant-loop-definition : goal.invariant-loop-definition
invariant-loop-definition l =
    (map (λ s. s.composite.now) l.scopes.items ≡ composites (take l.definition-index l.definition-items))
    × HoldsNames l.names (composite_names (take l.definition-index l.definition-items))
