use Rattle.std.proofs.Common.{◌≡◌, ◌++◌, drop, filter_map}
use Rattle.language_model.specs.Parameters.{parameter_place}
use Rattle.dollar_rules.specs.steps.Mentioned.{names_seen}
use Rattle.dollar_rules.proofs.heads.places_of.Given as goal

abbrev pub invariant-loop-name : goal.invariant-loop-name
invariant-loop-name l =
    filter_map (parameter_place l.parameters) (names_seen l.names)
    ≡ l.row ++ filter_map (parameter_place l.parameters) (names_seen (drop l.name-index l.names))
