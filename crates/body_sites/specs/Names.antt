-- The names of types.
use Rattle.std.specs.Prelude.{ℕ, List, map}
use Rattle.spl_tree.specs.declared.unit.TypeDefinition.{TypeDefinition}

abbrev pub type_names_of : List TypeDefinition → List (List ℕ)
type_names_of definitions = map (λ d. d.name.what) definitions
