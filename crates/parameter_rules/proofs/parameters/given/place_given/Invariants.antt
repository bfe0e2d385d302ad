use Rattle.std.proofs.Common.{◌≡◌, drop}
use Rattle.language_model.specs.ParameterTyping.{value_given}
use Rattle.parameter_rules.proofs.Taking.{LeftAt}
use Rattle.parameter_rules.proofs.parameters.given.place_given.Given as goal

abbrev pub invariant-loop-at : goal.invariant-loop-at
invariant-loop-at l = record {
  value : value_given l.given l.name ≡ value_given (drop l.at l.given) l.name;
  left : LeftAt l.given l.name l.at;
}
