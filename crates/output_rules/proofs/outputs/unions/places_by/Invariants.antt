use Rattle.std.proofs.Common.{◌≡◌, drop}
use Rattle.language_model.specs.OutputTyping.{places_typing}
use Rattle.language_model.specs.Finds.{with_front}
use Rattle.output_rules.proofs.outputs.unions.places_by.Given as goal

abbrev pub invariant-loop-wanted : goal.invariant-loop-wanted
invariant-loop-wanted l =
    places_typing l.at l.input.schema.now l.schema ≡ with_front l.places (places_typing l.at l.input.schema.now (drop l.wanted-index l.schema))
