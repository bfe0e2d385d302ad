use Rattle.std.proofs.Common.{◌≡◌, map, take}
use Rattle.language_model.specs.parts.TypeNames.{shape_names}
use Rattle.written_types.specs.steps.Definitions.{places_of}
use Rattle.written_types.proofs.places.rows_of.Given as goal

abbrev pub invariant-loop-definition : goal.invariant-loop-definition
invariant-loop-definition l =
    l.rows.items ≡ map (λ d. places_of l.definitions (shape_names d.now.shape)) (take l.definition-index l.definition-items)
