-- What the names of an expression mean.
use Rattle.std.specs.Prelude.{ℕ, suc, Bool, List, [], ◌∷◌, ◌++◌, if◌then◌else◌, Option, Some, None, Result}
use Rattle.std.specs.Option.{option_map, option_map_or, option_or}
use Rattle.std.specs.Str.{bytes_eq}
use Rattle.spl_value.specs.declared.types.Named.{Named}
use Rattle.spl_value.specs.declared.types.SplType.{SplType}
use Rattle.language_model.specs.declared.scope.CheckRefusal.{CheckRefusal}
use Rattle.language_model.specs.declared.scope.Dollar.{Dollar}
use Rattle.language_model.specs.declared.scope.Port.{Port}
use Rattle.language_model.specs.declared.scope.Scope.{Scope}
use Rattle.language_model.specs.declared.scope.Signature.{Signature}
use Rattle.language_model.specs.declared.scope.Typed.{Typed}
use Rattle.language_model.specs.declared.scope.Variable.{Variable}

-- what has the name, with its place
pub record At (A : Type 0) : Type 0 where
  pub place : ℕ
  pub what : A

abbrev pub at_place : {A : Type 0} → ℕ → A → At A
at_place place what = record { place = place; what = what }

-- the first that passes, in a list that begins at a place
abbrev pub first_from : {A : Type 0} → (A → Bool) → ℕ → List A → Option (At A)
first_from p i [] = None
first_from p i (x ∷ xs) = if p x then Some (at_place i x) else first_from p (suc i) xs

-- the last that passes
abbrev pub last_from : {A : Type 0} → (A → Bool) → ℕ → List A → Option (At A)
last_from p i [] = None
last_from p i (x ∷ xs) = option_or (last_from p (suc i) xs) (if p x then Some (at_place i x) else None)

-- the variable of the name: of several that which was declared last, so a local one before one of the state
abbrev pub variable_of : Scope → List ℕ → Option (At Variable)
variable_of scope name = last_from (λ v. bytes_eq v.name name) 0 scope.vars

abbrev pub attribute_of : List (Named SplType) → List ℕ → Option (At (Named SplType))
attribute_of schema name = first_from (λ a. bytes_eq a.name name) 0 schema

-- an attribute of a port, by the places of both, with its type
pub record PortAttribute : Type 0 where
  pub port : ℕ
  pub attribute : ℕ
  pub kind : SplType

-- the attributes of that name, at most one a port
abbrev pub attributes_from : ℕ → List Port → List ℕ → List PortAttribute
attributes_from i [] name = []
attributes_from i (p ∷ ps) name =
    option_map_or (λ a. record { port = i; attribute = a.place; kind = a.what.kind } ∷ [])
    (attribute_of p.schema name) []
    ++ attributes_from (suc i) ps name

abbrev pub attributes_of : Scope → List ℕ → List PortAttribute
attributes_of scope name = attributes_from 0 scope.ports name

abbrev pub function_of : Scope → List ℕ → Option (At Signature)
function_of scope name = first_from (λ f. bytes_eq f.name name) 0 scope.functions

-- the refusal of the types of the function of the name
abbrev pub unresolved_of : Scope → List ℕ → Option CheckRefusal
unresolved_of scope name = option_map (λ f. f.what.refusal) (first_from (λ f. bytes_eq f.name name) 0 scope.unresolved)

-- what the `$` parameter of the name is
abbrev pub dollar_of : List Dollar → List ℕ → Option (Result Typed CheckRefusal)
dollar_of dollars name = option_map (λ d. d.what.found) (first_from (λ d. bytes_eq d.name name) 0 dollars)

-- what a name means: a variable, an attribute of one port, the tuple of a port, or nothing, also where several ports
-- have an attribute of the name
pub data Meant : Type 0 where
  OfVariable : At Variable → Meant
  OfAttribute : PortAttribute → Meant
  OfPort : At Port → Meant
  Nothing : Meant

abbrev pub attribute_meant : List PortAttribute → Option (At Port) → Meant
attribute_meant [] port = option_map_or OfPort port Nothing
attribute_meant (a ∷ []) port = OfAttribute a
attribute_meant (a ∷ b ∷ as') port = Nothing

-- a variable comes before an attribute, and that before the first port of the name
abbrev pub meant : Scope → List ℕ → Meant
meant scope name =
    option_map_or OfVariable (variable_of scope name)
    (attribute_meant (attributes_of scope name) (first_from (λ p. bytes_eq p.name name) 0 scope.ports))
