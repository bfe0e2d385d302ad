use Rattle.std.proofs.Common.{ap, sym, ◌∙◌, ◌++◌, take, append_assoc}
use Rattle.std.specs.Prelude.{flat_map}
use Rattle.language_model.specs.TypeNames.{type_names}
use Rattle.written_types.specs.steps.Definitions.{places_of}
use Rattle.written_types.proofs.DefinedPlaces.{places_of-append, map_places}
use Rattle.written_types.proofs.Rows.{gives_on}
use Rattle.written_types.proofs.places.+places.Goals as goal

pub add_of_attributes-loop-attribute-preserved : goal.add_of_attributes-loop-attribute-preserved
add_of_attributes-loop-attribute-preserved t c =
    let definitions = c.args.definitions.now in
    let before = flat_map (λ a. type_names a.kind) (take c.loop-attribute.attribute-index c.args.attributes.now) in
    let here = type_names c.attribute-item.result.kind in
    c.in_ok-add_of_type.ensures
    ∙ ap (λ ps. ps ++ places_of definitions here) c.loop-attribute.invariant
    ∙ append_assoc c.args.places.now (places_of definitions before) (places_of definitions here)
    ∙ ap (λ ps. c.args.places.now ++ ps)
    (sym (places_of-append definitions before here)
    ∙ ap (places_of definitions) (sym (gives_on (λ a. type_names a.kind) c.args.attributes.now c.loop-attribute.attribute-index c.attribute-item.result c.loop-attribute-test.true c.attribute-item.is)))

pub add_of_type-returns-in_ok-add_of_type-in-Map-2 : goal.add_of_type-returns-in_ok-add_of_type-in-Map-2
add_of_type-returns-in_ok-add_of_type-in-Map-2 t c =
    map_places c.args.definitions.now c.args.written.now c.in-Map.key c.in-Map.value c.args.places.now
    c.add_of_type-in-Map.new.places c.add_of_type-in-Map-2.new.places (sym c.get.ensures ∙ c.in-Map.is) c.in_ok-add_of_type-in-Map.ensures c.in_ok-add_of_type-in-Map-2.ensures
