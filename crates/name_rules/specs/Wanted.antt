-- What is wanted of the parts of a literal, and of an index.
use Rattle.std.specs.Prelude.{ℕ, List, Option, Some, None, Ok, if◌then◌else◌}
use Rattle.spl_value.specs.declared.types.SplType.{SplType}
use Rattle.spl_value.specs.declared.types.SplType.TheOpen as T
use Rattle.spl_value.specs.declared.types.SplType.TheOpen.{SplType-F}
use Rattle.spl_value.specs.declared.types.Named.{Named}
use Rattle.spl_tree.specs.declared.expression.Field.{Field}
use Rattle.spl_tree.specs.declared.expression.Placed.{Placed}
use Rattle.language_model.specs.Typing.{Wants, Anything, This, Another, Found, Part, are_distinct, gives_each, mismatch}

-- what is wanted of a literal at a place, where something is
abbrev pub if_wanted : {A : Type 0} → ℕ → Wants A → Found (Option A)
if_wanted at Anything = Ok None
if_wanted at (This x) = Ok (Some x)
if_wanted at Another = mismatch at

-- the attributes that are wanted of fields, where they are: these have to be theirs, or else of different names
abbrev pub schema_for : ℕ → Wants (List (Named SplType)) → List (Field (Placed Part)) → Found (Option (List (Named SplType)))
schema_for at Another fs = mismatch at
schema_for at (This schema) fs = if gives_each schema fs then Ok (Some schema) else mismatch at
schema_for at Anything fs = if are_distinct fs then Ok None else mismatch at

-- the type that is wanted of an index, where one is
abbrev pub index_for : ℕ → SplType-F SplType → Found (Option SplType)
index_for base (T.List t) = Ok None
index_for base (T.Map k t) = Ok (Some k)
index_for base _ = mismatch base
