-- Words for parts of the rules of what types mean, for what works them out step by step.
use Rattle.std.specs.Prelude.{ℕ, Bool, List, length, if◌then◌else◌, Option}
use Rattle.std.specs.Option.{option_map_or}
use Rattle.spl_value.specs.declared.types.SplType.{SplType}
use Rattle.spl_tree.specs.declared.unit.TypeDefinition.{TypeDefinition}
use Rattle.spl_tree.specs.Trees.{Shape}
use Rattle.language_model.specs.Leading.{leads_back}
use Rattle.language_model.specs.Scopes.{At}
use Rattle.language_model.specs.TypeNames.{Types, kind_names, leads_to, shape_meant}
use Rattle.language_model.specs.Typing.{Found, unknown}

abbrev pub Names : Type 0
Names = List (List ℕ)

-- the names that stand in a shape
abbrev pub shape_names : Shape → Names
shape_names shape = kind_names shape.what

-- the definition at a place leads back to itself
abbrev pub is_circular : List TypeDefinition → ℕ → Bool
is_circular definitions place = leads_back (length definitions) (leads_to definitions) place

-- a name that has no definition here means what it does outside, and one whose definition leads back to itself means nothing
abbrev pub defined_type : List TypeDefinition → Types → Types → ℕ → List ℕ → Option (At TypeDefinition) → Found SplType
defined_type definitions outside inside at name found =
    option_map_or (λ d. if is_circular definitions d.place then unknown at name else shape_meant inside d.what.shape) found (outside at name)
