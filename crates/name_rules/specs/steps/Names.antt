-- What a call answers on names, against the definition of what they mean.
use Rattle.std.specs.Prelude.{◌≡◌, ◌<◌, ℕ, suc, List, [], ◌∷◌, Option, Some, None, drop, length}
use Rattle.std.specs.Borrow.{Bor}
use Rattle.spl_value.specs.declared.types.Named.{Named}
use Rattle.spl_value.specs.declared.types.SplType.{SplType}
use Rattle.language_model.specs.declared.scope.Port.{Port}
use Rattle.language_model.specs.Scopes.{at_place, PortAttribute, attributes_from, Meant, OfVariable, OfAttribute, OfPort, Nothing}
use Rattle.name_rules.specs.declared.names.Meaning.{Meaning}
use Rattle.name_rules.specs.declared.names.Meaning.TheVariants as M

abbrev pub port_attribute : ℕ → ℕ → SplType → PortAttribute
port_attribute port place kind = record { port = port; attribute = place; kind = kind }

-- from a place on, no port has an attribute of the name, or this is the first that has one
abbrev pub Holds : List Port → ℕ → List ℕ → Option (ℕ × ℕ × Bor (Named SplType)) → Type 0
Holds ports from name None = attributes_from from (drop from ports) name ≡ []
Holds ports from name (Some p) =
    (attributes_from from (drop from ports) name ≡ port_attribute p.0 p.1 p.2.now.kind ∷ attributes_from (suc p.0) (drop (suc p.0) ports) name) × (p.0 < length ports)

abbrev pub Means : Meant → Meaning → Type 0
Means m (M.Variable place v) = m ≡ OfVariable (at_place place v.now)
Means m (M.Attribute port place a) = m ≡ OfAttribute (port_attribute port place a.now.kind)
Means m (M.Port place p) = m ≡ OfPort (at_place place p.now)
Means m M.Nothing = m ≡ Nothing
