-- What names mean in a composite, or in the unit alone.
use Rattle.std.specs.Prelude.{List, Option, Some, None}
use Rattle.std.specs.Borrow.{Bor}
use Rattle.spl_tree.specs.declared.unit.TypeDefinition.{TypeDefinition}
use Rattle.language_model.specs.TypeNames.{Types, types_of}
use Rattle.language_model.specs.Typing.{unknown}
use Rattle.written_types.specs.declared.finding.TypeScope.{TypeScope}

-- outside the definitions, where there are some
abbrev pub outside_types : Option (Bor (List TypeDefinition)) → Types
outside_types None = unknown
outside_types (Some definitions) = types_of definitions.now unknown

abbrev pub types_in : TypeScope → Types
types_in scope = types_of scope.own.now (outside_types scope.outside)
