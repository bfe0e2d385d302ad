-- What names mean, by their definitions.
use Rattle.std.specs.Prelude.{◌≡◌, ℕ, Bool, false, List, if◌then◌else◌, Option, Some, None}
use Rattle.std.proofs.Common.{refl, ap, sym, ◌∙◌}
use Rattle.spl_value.specs.declared.types.SplType.{SplType}
use Rattle.spl_tree.specs.declared.unit.TypeDefinition.{TypeDefinition}
use Rattle.language_model.specs.Scopes.{At}
use Rattle.language_model.specs.TypeNames.{Types, definition_of, shape_meant, types_of}
use Rattle.language_model.specs.parts.TypeNames.{defined_type}
use Rattle.language_model.specs.Typing.{Found, unknown}
use Rattle.language_model.proofs.DefinedTypes.{names_law}
use Rattle.written_types.specs.steps.Circles.{with_circle}

module _ (definitions : List TypeDefinition) (outside : Types) (name : List ℕ) (at : ℕ) where
  abbrev types : Types
  types = types_of definitions outside

  abbrev told_type : Option (TypeDefinition × Bool) → Found SplType
  told_type None = outside at name
  told_type (Some p) = if p.1 then unknown at name else shape_meant types p.0.shape

  told_is : (o : Option (At TypeDefinition)) → defined_type definitions outside types at name o ≡ told_type (with_circle definitions o)
  told_is None = refl
  told_is (Some d) = refl

  by_definition : types at name ≡ told_type (with_circle definitions (definition_of definitions name))
  by_definition = names_law definitions outside at name ∙ told_is (definition_of definitions name)

  pub has_none : None ≡ with_circle definitions (definition_of definitions name) → types at name ≡ outside at name
  has_none e = by_definition ∙ ap told_type (sym e)

  pub has_shape : (d : TypeDefinition) (b : Bool) → b ≡ false → Some (d, b) ≡ with_circle definitions (definition_of definitions name)
      → types at name ≡ shape_meant types d.shape
  has_shape d b is e = by_definition ∙ ap told_type (sym e) ∙ ap (λ c. if c then unknown at name else shape_meant types d.shape) is
