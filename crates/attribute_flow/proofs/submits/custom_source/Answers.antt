use Rattle.std.proofs.Common.{None, ap, cond, ◌∙◌}
use Rattle.stream_model.specs.Copies.{agreed, submits_in}
use Rattle.attribute_flow.specs.steps.Agreements.{agreed_on, agreement, is_unseen}
use Rattle.attribute_flow.proofs.Agreeing.{agreed_is, unseen_is}
use Rattle.attribute_flow.proofs.submits.custom_source.Goals as goal

pub returns-then-is_unseen : goal.returns-then-is_unseen
returns-then-is_unseen c =
    let a = c.args.attribute in
    let handlers = c.args.handlers.now in
    c.agreed_on.ensures
    ∙ ap agreed_on (c.of_bodies-then-is_unseen.ensures ∙ ap (λ bodies. agreement a (submits_in bodies)) c.as_slice-then-is_unseen.ensures)
    ∙ agreed_is a (submits_in handlers.on_tuple)
    ∙ ap (λ b. cond b (agreed a (submits_in handlers.on_tuple)) None)
    (c.if-is_unseen.ensures ∙ ap is_unseen (c.of_bodies.ensures ∙ ap (λ bodies. agreement a (submits_in bodies)) c.as_slice.ensures) ∙ unseen_is a (submits_in handlers.on_punct))
