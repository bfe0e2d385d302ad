-- What functions inside the crate answer on lists, maps and tuples, against the definition.
use Rattle.std.specs.Prelude.{ℕ, List, [], ◌∷◌, ◌++◌, Option, Some, None, Ok}
use Rattle.spl_value.specs.declared.types.Named.{Named}
use Rattle.spl_value.specs.declared.types.SplType.{SplType}
use Rattle.spl_value.specs.declared.types.SplType.TheVariants as S
use Rattle.spl_tree.specs.declared.code.Code.{Code}
use Rattle.spl_tree.specs.declared.code.Code.TheVariants as C
use Rattle.spl_tree.specs.declared.code.Slot.{Slot}
use Rattle.spl_tree.specs.declared.expression.Field.{Field}
use Rattle.spl_tree.specs.declared.expression.Placed.{Placed}
use Rattle.language_model.specs.declared.scope.Typed.{Typed}
use Rattle.language_model.specs.Scopes.{At, at_place, attribute_of}
use Rattle.language_model.specs.Typing.{Found, Part, mismatch, typed}

-- a list of these elements, where their type is known
abbrev pub list_given : ℕ → Option SplType → List (Code Slot) → Found Typed
list_given at None codes = mismatch at
list_given at (Some t) codes = Ok (typed (S.List t) (C.List codes))

-- a map of these entries, where the types of their keys and values are known
abbrev pub map_given : ℕ → Option (SplType × SplType) → List (Code Slot × Code Slot) → Found Typed
map_given at None codes = mismatch at
map_given at (Some p) codes = Ok (typed (S.Map p.0 p.1) (C.Map codes))

-- the place of a field's attribute, and its type, which is wanted of the field
abbrev pub attribute_for : ℕ → Option (At (Named SplType)) → Found (At (Option SplType))
attribute_for at None = mismatch at
attribute_for at (Some a) = Ok (at_place a.place (Some a.what.kind))

-- where no attributes are wanted a field stands at its place in the row, and nothing is wanted of it
abbrev pub field_for : Option (List (Named SplType)) → ℕ → Field (Placed Part) → Found (At (Option SplType))
field_for None i f = Ok (at_place i None)
field_for (Some schema) i f = attribute_for f.value.at (attribute_of schema f.name.what)

-- and is an attribute more of its own
abbrev pub with_own : Option (List (Named SplType)) → List (Named SplType) → Named SplType → List (Named SplType)
with_own None own a = own ++ a ∷ []
with_own (Some schema) own a = own
