use Rattle.std.proofs.Common.{◌≡◌, drop}
use Rattle.std.specs.Prelude.{flat_map}
use Rattle.language_model.specs.Declarations.{first_of, repeated_in_definition}
use Rattle.duplicate_rules.proofs.declarations.repeated_in_definitions.Given as goal

abbrev pub invariant-loop-definition : goal.invariant-loop-definition
invariant-loop-definition l = first_of (flat_map repeated_in_definition l.unit) ≡ first_of (flat_map repeated_in_definition (drop l.definition-index l.unit))
