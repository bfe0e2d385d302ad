-- Words for parts of the rules of names: an attribute with the place of its port.
use Rattle.std.specs.Prelude.{ℕ, List, [], ◌∷◌, Option}
use Rattle.std.specs.Option.{option_map_or}
use Rattle.spl_value.specs.declared.types.Named.{Named}
use Rattle.spl_value.specs.declared.types.SplType.{SplType}
use Rattle.language_model.specs.Scopes.{At, PortAttribute}

abbrev pub in_port : ℕ → Option (At (Named SplType)) → List PortAttribute
in_port i o = option_map_or (λ a. record { port = i; attribute = a.place; kind = a.what.kind } ∷ []) o []
