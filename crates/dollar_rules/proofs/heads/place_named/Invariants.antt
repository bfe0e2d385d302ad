use Rattle.std.proofs.Common.{◌≡◌, drop}
use Rattle.std.specs.Option.{option_map}
use Rattle.std.specs.Str.{bytes_eq}
use Rattle.language_model.specs.Parameters.{parameter_place}
use Rattle.language_model.specs.Scopes.{first_from}
use Rattle.dollar_rules.proofs.heads.place_named.Given as goal

abbrev pub invariant-loop-at : goal.invariant-loop-at
invariant-loop-at l =
    parameter_place l.parameters l.name ≡ option_map (λ p. p.place) (first_from (λ p. bytes_eq p.name.what l.name) l.at (drop l.at l.parameters))
