use Rattle.std.proofs.Common.{ap, map, ◌∙◌}
use Rattle.language_model.specs.parts.TypeNames.{shape_names}
use Rattle.written_types.specs.steps.Definitions.{places_of}
use Rattle.written_types.proofs.Rows.{all_taken}
use Rattle.written_types.proofs.places.rows_of.Goals as goal

pub returns : goal.returns
returns c =
    let definitions = c.args.definitions.now in
    c.loop-definition.invariant
    ∙ all_taken (λ d. places_of definitions (shape_names d.shape)) (λ d. d.now) c.list-definition-items.result.now c.loop-definition.definition-index c.loop-definition-test.false
    ∙ ap (λ ds. map (λ d. places_of definitions (shape_names d.shape)) ds) c.list-definition-items.ensures
