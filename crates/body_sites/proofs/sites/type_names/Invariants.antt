use Rattle.std.proofs.Common.{take}
use Rattle.language_model.specs.TypeNames.{type_definitions}
use Rattle.program_tables.specs.Names.{HoldsNames}
use Rattle.body_sites.specs.Names.{type_names_of}
use Rattle.body_sites.proofs.sites.type_names.Given as goal

abbrev pub invariant-loop-definition : goal.invariant-loop-definition
invariant-loop-definition l = HoldsNames l.names (type_names_of (type_definitions (take l.definition-index l.definition-items)))
