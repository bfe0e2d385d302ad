use Rattle.std.proofs.Common.{◌≡◌, ◌+◌, ◌*◌, drop}
use Rattle.language_model.specs.TypeNames.{attributes_type, written_attributes}
use Rattle.language_model.specs.Finds.{with_front}
use Rattle.written_types.specs.TypeScopes.{types_in}
use Rattle.written_types.proofs.finding.+types.Given as goal

abbrev pub invariant-schema_at-loop-attribute : goal.invariant-schema_at-loop-attribute
invariant-schema_at-loop-attribute l =
    attributes_type (types_in l.scope) (written_attributes l.attributes)
    ≡ with_front l.schema (attributes_type (types_in l.scope) (written_attributes (drop l.attribute-index l.attributes)))

abbrev pub decreases-type_at : goal.decreases-type_at
decreases-type_at l = 4 * l.levels

abbrev pub decreases-schema_at : goal.decreases-schema_at
decreases-schema_at l = 4 * l.levels + 1

abbrev pub decreases-shape_at : goal.decreases-shape_at
decreases-shape_at l = 4 * l.levels + 2

abbrev pub decreases-named : goal.decreases-named
decreases-named l = 4 * l.levels + 3
