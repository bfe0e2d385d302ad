-- What a name means among definitions of types.
use Rattle.std.specs.Prelude.{◌≡◌, ℕ, List}
use Rattle.spl_tree.specs.declared.unit.TypeDefinition.{TypeDefinition}
use Rattle.language_model.specs.TypeNames.{Types, definition_of, types_of}
use Rattle.language_model.specs.parts.TypeNames.{defined_type}

-- ---- names among definitions

-- a name means what its definition says, in which names mean the same
abbrev pub NamesLaw : Type 0
NamesLaw =
    (definitions : List TypeDefinition) (outside : Types) (at : ℕ) (name : List ℕ)
    → types_of definitions outside at name ≡ defined_type definitions outside (types_of definitions outside) at name (definition_of definitions name)
