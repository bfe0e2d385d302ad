use Rattle.std.proofs.Common.{◌≡◌, drop, map}
use Rattle.language_model.specs.Kinds.{parameter_seen}
use Rattle.language_model.specs.ParameterTyping.{missing}
use Rattle.language_model.specs.parts.ParameterTyping.{needed_among}
use Rattle.parameter_rules.proofs.parameters.roles.missing_among.Given as goal

abbrev pub invariant-loop-parameter : goal.invariant-loop-parameter
invariant-loop-parameter l =
    missing l.given (needed_among (map parameter_seen l.parameters) l.partitioned)
    ≡ missing l.given (needed_among (map parameter_seen (drop l.parameter-index l.parameters)) l.partitioned)
