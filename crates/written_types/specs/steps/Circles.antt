-- What a table of definitions knows of those that lead back to themselves.
use Rattle.std.specs.Prelude.{ℕ, Bool, List, length, Option, Some, None}
use Rattle.std.specs.Borrow.{Bor}
use Rattle.spl_tree.specs.declared.unit.TypeDefinition.{TypeDefinition}
use Rattle.language_model.specs.Leading.{leads_back}
use Rattle.language_model.specs.Scopes.{At}
use Rattle.language_model.specs.parts.TypeNames.{is_circular}
use Rattle.written_types.specs.Circles.{Tells}
use Rattle.written_types.specs.Stepping.{steps_from}

-- for each place, whether it leads back to itself
abbrev pub TellsBack : List (List ℕ) → List Bool → Type 0
TellsBack rows flags = Tells (length rows) (leads_back (length rows) (steps_from rows)) flags

-- a definition, and whether it leads back to itself
abbrev pub with_circle : List TypeDefinition → Option (At TypeDefinition) → Option (TypeDefinition × Bool)
with_circle definitions None = None
with_circle definitions (Some d) = Some (d.what, is_circular definitions d.place)

abbrev pub told : Option (Bor TypeDefinition × Bool) → Option (TypeDefinition × Bool)
told None = None
told (Some p) = Some (p.0.now, p.1)
