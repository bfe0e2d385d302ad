use Rattle.std.proofs.Common.{◌≡◌, drop}
use Rattle.language_model.specs.OutputTyping.{filled_from, with_others}
use Rattle.language_model.specs.Finds.{with_front}
use Rattle.output_rules.proofs.outputs.assigned.others.Given as goal

abbrev pub invariant-loop-place : goal.invariant-loop-place
invariant-loop-place g l =
    with_others (g.T.Gives.fills l.gives) l.schema.schema.now l.fn.front
    ≡ with_front l.given (filled_from (g.T.Gives.fills l.gives) l.fn.front l.place (drop l.place l.schema.schema.now))
