-- Attributes that are found by their names.
use Rattle.std.specs.Prelude.{◌≡◌, ◌<◌, ℕ, suc, Bool, List, [], ◌∷◌, ◌++◌, Option, Some, None, drop, length}
use Rattle.std.specs.Borrow.{Bor}
use Rattle.std.specs.Coded.{Coded-set, coded_list}
use Rattle.std.specs.Option.{option_map}
use Rattle.std.specs.Str.{bytes_eq}
use Rattle.spl_value.specs.contracts.types.Named as named
use Rattle.spl_value.specs.contracts.types.SplType as row
use Rattle.spl_value.specs.declared.types.Named.{Named}
use Rattle.spl_value.specs.declared.types.SplType.{SplType}
use Rattle.language_model.specs.Scopes.{PortAttribute, attribute_of, first_from}
use Rattle.language_model.specs.parts.Scopes.{in_port}

abbrev pub same_bytes : Bor (List ℕ) → Bor (List ℕ) → Bool
same_bytes x y = bytes_eq x.now y.now

-- the place of the first attribute of a name, in attributes that begin at a place
abbrev pub place_from : ℕ → List (Named SplType) → List ℕ → Option ℕ
place_from at schema name = option_map (λ a. a.place) (first_from (λ a. bytes_eq a.name name) at schema)

-- names are found at their first places
abbrev pub HasFirst : List (Named SplType) → (Bor (List ℕ) → Option ℕ) → Type 0
HasFirst schema find = (name : Bor (List ℕ)) → find name ≡ place_from 0 schema name.now

-- the attributes of a name in schemas that begin at a place, at most one of each
abbrev pub attributes_in : ℕ → List (List (Named SplType)) → List ℕ → List PortAttribute
attributes_in i [] name = []
attributes_in i (s ∷ ss) name = in_port i (attribute_of s name) ++ attributes_in (suc i) ss name

-- from a place on, no schema has an attribute of the name, or this is the first that has one
abbrev pub HoldsIn : List (List (Named SplType)) → ℕ → List ℕ → Option (ℕ × ℕ × Bor (Named SplType)) → Type 0
HoldsIn schemas from name None = attributes_in from (drop from schemas) name ≡ []
HoldsIn schemas from name (Some p) =
    (attributes_in from (drop from schemas) name
    ≡ record { port = p.0; attribute = p.1; kind = p.2.now.kind } ∷ attributes_in (suc p.0) (drop (suc p.0) schemas) name)
    × (p.0 < length schemas)

-- two lists of schemas are equal in one way at most
pub same_schemas : IsSet (List (List (Named SplType)))
same_schemas = Coded-set (coded_list (coded_list (named.the_row row.the_row).coded))
