use Rattle.std.proofs.Common.{◌≡◌, drop, map}
use Rattle.std.specs.Prelude.{List}
use Rattle.spl_tree.specs.declared.unit.Definition.{Definition}
use Rattle.language_model.specs.Declarations.{definition_name, first_of, repeated_after}
use Rattle.language_model.proofs.parts.Declarations.{is_defined}
use Rattle.language_model.specs.parts.Declarations.{repeated_definitions}
use Rattle.duplicate_rules.specs.steps.NamesBefore.{Hold}
use Rattle.duplicate_rules.proofs.declarations.definitions.first_behind.Given as goal

abbrev pub invariant-loop-definition : goal.invariant-loop-definition
invariant-loop-definition l =
    (before : List Definition) × Hold l.before (map definition_name before)
    × (first_of (repeated_definitions l.unit) ≡ first_of (map definition_name (repeated_after is_defined before (drop l.definition-index l.unit))))
