-- What the names of types mean in bodies.
use Rattle.std.specs.Prelude.{◌≡◌, List, Option, Some, None}
use Rattle.spl_tree.specs.declared.unit.Composite.{Composite}
use Rattle.spl_tree.specs.declared.unit.Definition.{Definition}
use Rattle.language_model.specs.TypeNames.{composite_types}
use Rattle.written_types.specs.declared.finding.TypeScope.{TypeScope}
use Rattle.written_types.specs.TypeScopes.{types_in}

-- what they mean in the composite, where there is one
abbrev pub MeansTypes : List Definition → Option Composite → Option TypeScope → Type 0
MeansTypes unit (Some c) (Some types) = types_in types ≡ composite_types unit c
MeansTypes unit None None = Unit {0}
MeansTypes unit _ _ = ⊥
