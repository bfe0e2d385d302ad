use Rattle.std.proofs.Common.{[], ap, ◌∙◌, ◌∷◌}
use Rattle.spl_value.specs.Calls.{has_key, min_of, max_of}
use Rattle.spl_value.proofs.CallsLaws.{exactly_answers}
use Rattle.language_model.specs.parts.BuiltInCalls.{built_in_of}
use Rattle.language_model.proofs.BuiltInCalls.{has_called, min_called, max_called}
use Rattle.value_operations.proofs.Arguments.{settles_called}
use Rattle.value_operations.proofs.calls.two_arguments.Goals as goal

pub returns-in-Has : goal.returns-in-Has
returns-in-Has c =
    let v = c.args.first.now in
    let w = c.args.second.now in
    settles_called c.answered.result _ (has_key v w) (ap (λ call. built_in_of call (v ∷ w ∷ [])) c.in-Has.is ∙ has_called v w)
    (c.answered.ensures (has_key v w) (exactly_answers c.has.result (has_key v w) c.has.ensures))

pub returns-in-Min : goal.returns-in-Min
returns-in-Min c =
    let v = c.args.first.now in
    let w = c.args.second.now in
    settles_called c.answered-in-Min.result _ (min_of v w) (ap (λ call. built_in_of call (v ∷ w ∷ [])) c.in-Min.is ∙ min_called v w) (c.answered-in-Min.ensures (min_of v w) c.min.ensures)

pub returns-in-Max : goal.returns-in-Max
returns-in-Max c =
    let v = c.args.first.now in
    let w = c.args.second.now in
    settles_called c.answered-in-Max.result _ (max_of v w) (ap (λ call. built_in_of call (v ∷ w ∷ [])) c.in-Max.is ∙ max_called v w) (c.answered-in-Max.ensures (max_of v w) c.max.ensures)
