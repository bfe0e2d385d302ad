-- Words for parts of the rules of names: the last that is found, the port of a name, and what comes before what.
use Rattle.std.specs.Prelude.{ℕ, List, Option}
use Rattle.std.specs.Option.{option_map_or, option_or}
use Rattle.std.specs.Str.{bytes_eq}
use Rattle.language_model.specs.declared.scope.Port.{Port}
use Rattle.language_model.specs.declared.scope.Scope.{Scope}
use Rattle.language_model.specs.declared.scope.Variable.{Variable}
use Rattle.language_model.specs.Scopes.{At, first_from, PortAttribute, Meant, OfVariable, attribute_meant}

abbrev pub or_before : {A : Type 0} → Option (At A) → Option (At A) → Option (At A)
or_before o before = option_or o before

-- the first port of the name
abbrev pub port_of : Scope → List ℕ → Option (At Port)
port_of scope name = first_from (λ p. bytes_eq p.name name) 0 scope.ports

-- a variable comes before an attribute, and that before a port
abbrev pub variable_meant : Option (At Variable) → List PortAttribute → Option (At Port) → Meant
variable_meant variable attributes port = option_map_or OfVariable variable (attribute_meant attributes port)
