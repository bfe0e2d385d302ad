-- Which definitions lead back to themselves.
use Rattle.std.specs.Prelude.{◌≡◌, ◌<◌, ℕ, Bool, List, length, Some, slice_get}
use Rattle.spl_tree.specs.declared.unit.TypeDefinition.{TypeDefinition}
use Rattle.language_model.specs.parts.TypeNames.{is_circular}

-- a flag for each of some places, and whether the test passes there
abbrev pub Tells : ℕ → (ℕ → Bool) → List Bool → Type 0
Tells count test flags = (length flags ≡ count) × ((place : ℕ) → place < count → slice_get flags place ≡ Some (test place))

-- for each definition, whether it leads back to itself
abbrev pub TellsCircular : List TypeDefinition → List Bool → Type 0
TellsCircular definitions flags = Tells (length definitions) (is_circular definitions) flags
