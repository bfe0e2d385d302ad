-- Words for parts of the rules of names that are declared: definitions that stand again, and all that stands again in a unit.
use Rattle.std.specs.Prelude.{Bool, ◌||◌, List, ◌++◌, map, flat_map}
use Rattle.std.specs.List.{list_any}
use Rattle.std.specs.Option.{option_to_list}
use Rattle.spl_tree.specs.declared.unit.Definition.{Definition}
use Rattle.language_model.specs.Declarations.{Name, is_same, repeated, repeated_names, definition_name, is_built_in, repeated_in_definition, definition_sets, first_in_text}

abbrev pub is_defined : List Definition → Definition → Bool
is_defined before d = is_built_in d || list_any (λ e. is_same (definition_name e) (definition_name d)) before

-- first the definitions, then the sets of each composite, and then all sets within types and statements
abbrev pub repeated_in_unit : List Definition → List Name
repeated_in_unit unit =
    map definition_name (repeated is_defined unit)
    ++ flat_map repeated_in_definition unit
    ++ option_to_list (first_in_text (flat_map repeated_names (flat_map definition_sets unit)))
