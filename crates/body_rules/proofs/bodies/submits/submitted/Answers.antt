use Rattle.std.proofs.Common.{Err, ap, sym, subst, ◌∙◌}
use Rattle.language_model.specs.BodyTyping.{submitted}
use Rattle.language_model.specs.Finds.{IsUnknown}
use Rattle.body_rules.proofs.Submitting.{no_port, port_by, submits_as, this_port, unknown_is}
use Rattle.body_rules.proofs.bodies.submits.submitted.Goals as goal
use Rattle.language_model.proofs.FoundAnswers.{finds_by}

pub returns-in_default-port_named : goal.returns-in_default-port_named
returns-in_default-port_named c =
    let ports = c.in-Handler.ports.now in
    finds_by _ _ (Err c.unknown.result)
    (ap (submits_as c.args.at c.args.setting.now c.args.scope.now c.args.value.now c.args.stream.now) c.in-Handler.is
    ∙ no_port ports c.args.scope.now c.args.value.now c.args.stream.now (ap (λ name. port_by ports name 0) (sym c.as_slice-name.ensures) ∙ c.in_default-port_named.ensures))
    (unknown_is _ _ _ (subst (λ name. IsUnknown c.args.stream.now.at name c.unknown.result) c.as_slice-name.ensures c.unknown.ensures))

pub returns : goal.returns
returns c =
    let ports = c.in-Handler.ports.now in
    finds_by _ _ _
    (ap (submits_as c.args.at c.args.setting.now c.args.scope.now c.args.value.now c.args.stream.now) c.in-Handler.is
    ∙ this_port ports c.args.scope.now c.args.value.now c.args.stream.now c.in-Some.place c.in-Some.port.now
    (ap (λ name. port_by ports name 0) (sym c.as_slice-name.ensures) ∙ c.in-Some.ensures)
    ∙ ap (λ i. submitted c.args.scope.now i c.in-Some.port.now.schema c.args.value.now) (sym c.in_ok-place.ensures))
    c.submitted_on.ensures
