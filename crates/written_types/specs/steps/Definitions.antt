-- What a table of definitions holds.
use Rattle.std.specs.Prelude.{◌≡◌, ℕ, Bool, List, filter_map, map, Option}
use Rattle.std.specs.Borrow.{Bor}
use Rattle.std.specs.Option.{option_map}
use Rattle.std.specs.Str.{bytes_eq}
use Rattle.spl_tree.specs.declared.unit.TypeDefinition.{TypeDefinition}
use Rattle.language_model.specs.Scopes.{first_from}
use Rattle.language_model.specs.TypeNames.{definition_of}
use Rattle.language_model.specs.parts.TypeNames.{Names, shape_names}

abbrev pub same_bytes : Bor (List ℕ) → Bor (List ℕ) → Bool
same_bytes x y = bytes_eq x.now y.now

-- the place of the first definition of a name, in definitions that begin at a place
abbrev pub place_from : ℕ → List TypeDefinition → List ℕ → Option ℕ
place_from at definitions name = option_map (λ d. d.place) (first_from (λ d. bytes_eq d.name.what name) at definitions)

-- names are found at their first places
abbrev pub HasFirst : List TypeDefinition → (Bor (List ℕ) → Option ℕ) → Type 0
HasFirst definitions find = (name : Bor (List ℕ)) → find name ≡ place_from 0 definitions name.now

-- the places of the definitions of some names
abbrev pub places_of : List TypeDefinition → Names → List ℕ
places_of definitions names = filter_map (λ name. option_map (λ d. d.place) (definition_of definitions name)) names

-- for each definition, the places that the names in it lead to
abbrev pub rows_of : List TypeDefinition → List (List ℕ)
rows_of definitions = map (λ d. places_of definitions (shape_names d.shape)) definitions
