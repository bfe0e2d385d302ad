use Rattle.std.proofs.Common.{◌≡◌, suc, Err, Option, ap, sym, subst, ◌∙◌, arith}
use Rattle.spl_tree.specs.declared.unit.HeadPort.{HeadPort}
use Rattle.language_model.specs.parts.StreamTypes.{port_matches}
use Rattle.language_model.specs.Finds.{Finds}
use Rattle.stream_rules.specs.steps.Among.{graph_of, unit_of}
use Rattle.body_sites.specs.Bodies.{body_seen}
use Rattle.stream_rules.proofs.PortHeads.{head_on, head_stops, none_of}
use Rattle.stream_rules.proofs.ports.inputs.heads.+heads.Goals as goal
use Rattle.language_model.proofs.FoundAnswers.{fails}

pub name_passes-returns-in_err-port_matches-clause-found : goal.name_passes-returns-in_err-port_matches-clause-found
name_passes-returns-in_err-port_matches-clause-found t c =
    let unit = unit_of c.args.streams.now in
    let g = graph_of c.args.streams.now in
    let b = body_seen c.args.body.now in
    let less : c.args.left ≡ suc c.in-Some.fewer = omega (arith, c.in-Some.ensures) in
    let P : Option HeadPort → Type 0 = λ o. Finds (port_matches unit g b c.args.schema.now o) (Err c.in_err-port_matches.field-0.0) in
    fails _ _ _ c.from_residual.ensures.1
    (head_stops unit g c.args.schema.now b c.args.name.now c.args.left c.in-Some.fewer c.in-Some-input_place.place less
    (sym c.own_place.ensures ∙ none_of c.own_place.result (sym c.is_some.ensures ∙ c.if-is_some.false)) c.in-Some-input_place.ensures _ (subst P c.get-port.ensures.value c.in_err-port_matches.ensures))

pub name_passes-returns-clause-found : goal.name_passes-returns-clause-found
name_passes-returns-clause-found t c =
    let unit = unit_of c.args.streams.now in
    let g = graph_of c.args.streams.now in
    let b = body_seen c.args.body.now in
    let less : c.args.left ≡ suc c.in-Some.fewer = omega (arith, c.in-Some.ensures) in
    head_on unit g c.args.schema.now b c.args.name.now c.args.left c.in-Some.fewer c.in-Some-input_place.place less
    (sym c.own_place.ensures ∙ none_of c.own_place.result (sym c.is_some.ensures ∙ c.if-is_some.false)) c.in-Some-input_place.ensures c.in-Some-site.site _
    (ap (port_matches unit g b c.args.schema.now) (sym c.get-port.ensures.value) ∙ c.in_ok-port_matches.ensures) c.in-Some-site.is c.port_passes.ensures.found
