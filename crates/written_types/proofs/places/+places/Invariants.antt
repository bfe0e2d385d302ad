use Rattle.std.proofs.Common.{◌≡◌, ◌+◌, ◌*◌, ◌++◌, take}
use Rattle.std.specs.Prelude.{flat_map}
use Rattle.language_model.specs.TypeNames.{type_names}
use Rattle.written_types.specs.steps.Definitions.{places_of}
use Rattle.written_types.proofs.places.+places.Given as goal

abbrev pub invariant-add_of_attributes-loop-attribute : goal.invariant-add_of_attributes-loop-attribute
invariant-add_of_attributes-loop-attribute l =
    l.places ≡ l.fn.places ++ places_of l.definitions (flat_map (λ a. type_names a.kind) (take l.attribute-index l.attributes))

abbrev pub decreases-add_of_type : goal.decreases-add_of_type
decreases-add_of_type l = 2 * l.levels

abbrev pub decreases-add_of_attributes : goal.decreases-add_of_attributes
decreases-add_of_attributes l = 2 * l.levels + 1
