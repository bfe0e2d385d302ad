-- What a name of a type is found to mean.
use Rattle.std.specs.Prelude.{◌≡◌, ℕ, List, Option, Some, None}
use Rattle.std.specs.Borrow.{Bor}
use Rattle.spl_tree.specs.declared.unit.TypeDefinition.{TypeDefinition}
use Rattle.language_model.specs.TypeNames.{Types, shape_meant}
use Rattle.language_model.specs.Typing.{unknown}
use Rattle.written_types.specs.declared.finding.TypeScope.{TypeScope}
use Rattle.written_types.specs.TypeScopes.{types_in}

-- the name means nothing, or what that shape means there
abbrev pub NameMeans : Types → List ℕ → Option (TypeScope × Bor TypeDefinition) → Type 0
NameMeans types name None = (at : ℕ) → types at name ≡ unknown at name
NameMeans types name (Some p) = (at : ℕ) → types at name ≡ shape_meant (types_in p.0) p.1.now.shape
