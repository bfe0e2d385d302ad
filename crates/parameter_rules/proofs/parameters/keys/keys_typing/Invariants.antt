use Rattle.std.proofs.Common.{◌≡◌, reverse, drop, []}
use Rattle.language_model.specs.ParameterTyping.{keys_typing}
use Rattle.language_model.specs.Finds.{with_front}
use Rattle.parameter_rules.proofs.parameters.keys.keys_typing.Given as goal

abbrev pub invariant-loop-value : goal.invariant-loop-value
invariant-loop-value l = keys_typing l.schema [] l.values ≡ with_front l.places (keys_typing l.schema (reverse l.places) (drop l.value-index l.values))
