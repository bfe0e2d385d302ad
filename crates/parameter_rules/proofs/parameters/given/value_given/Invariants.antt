use Rattle.std.proofs.Common.{◌≡◌, drop}
use Rattle.language_model.specs.ParameterTyping.{value_given}
use Rattle.parameter_rules.proofs.parameters.given.value_given.Given as goal

abbrev pub invariant-loop-parameter : goal.invariant-loop-parameter
invariant-loop-parameter l = value_given l.given l.name ≡ value_given (drop l.parameter-index l.given) l.name
