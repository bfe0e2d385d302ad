use Rattle.std.proofs.Common.{◌≡◌, drop}
use Rattle.language_model.specs.OutputTyping.{inputs_typing}
use Rattle.language_model.specs.Finds.{with_front}
use Rattle.output_rules.proofs.outputs.unions.places_of.Given as goal

abbrev pub invariant-loop-input : goal.invariant-loop-input
invariant-loop-input l =
    inputs_typing l.at l.schema l.inputs ≡ with_front l.places (inputs_typing l.at l.schema (drop l.input-index l.inputs))
