use Rattle.std.proofs.Common.{[], ap, ◌∙◌, ◌∷◌}
use Rattle.spl_value.specs.Calls.{substring_of}
use Rattle.language_model.specs.parts.BuiltInCalls.{built_in_of}
use Rattle.language_model.proofs.BuiltInCalls.{substring_called}
use Rattle.value_operations.proofs.Arguments.{settles_called}
use Rattle.value_operations.proofs.calls.three_arguments.Goals as goal

pub returns : goal.returns
returns c =
    let v = c.args.first.now in
    let w = c.args.second.now in
    let x = c.args.third.now in
    settles_called c.answered.result _ (substring_of v w x) (ap (λ call. built_in_of call (v ∷ w ∷ x ∷ [])) c.in-Substring.is ∙ substring_called v w x)
    (c.answered.ensures (substring_of v w x) c.substring.ensures)
