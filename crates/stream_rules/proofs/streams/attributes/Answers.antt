use Rattle.std.proofs.Common.{◌≡◌, None, ap, sym, ◌∙◌}
use Rattle.std.specs.Option.{option_map}
use Rattle.language_model.specs.StreamTypes.{origin_of}
use Rattle.stream_rules.specs.steps.Origins.{lead_at, origin_seen}
use Rattle.stream_rules.proofs.AnswerSteps.{refused_as, unknown_as}
use Rattle.stream_rules.proofs.StandingOrigins.{circle_there, made_nowhere, own_there}
use Rattle.stream_rules.proofs.streams.attributes.Goals as goal
use Rattle.language_model.proofs.FoundAnswers.{finds_by}

pub returns-in_default-origin_of : goal.returns-in_default-origin_of
returns-in_default-origin_of c =
    let unit = c.args.sites.now.unit.now in
    let g = c.args.graph.now in
    let e = c.in-Some.ensures unit g c.requires in
    let nowhere : origin_of unit g c.in-Some.last ≡ None = sym c.origin_of.ensures ∙ ap (option_map origin_seen) c.in_default-origin_of.is in
    refused_as _ _ _ c.mismatch-in_default-origin_of.ensures (e.1 ∙ made_nowhere unit g e.0 c.in-Some.last nowhere)

pub returns-in-Some-named_stream : goal.returns-in-Some-named_stream
returns-in-Some-named_stream c =
    let unit = c.args.sites.now.unit.now in
    let g = c.args.graph.now in
    let e = c.in-Some.ensures unit g c.requires in
    let o = origin_seen c.in-Some-origin_of.origin in
    let at = c.in-Some.last in
    let found = circle_there unit g e.0 at o (sym c.in-Some-origin_of.ensures) (lead_at c.args.leads.now.next.items at) c.in-Some-named_stream.field-0-0 c.in-Some-named_stream.name.now
    (c.requires.steps.each at) (λ to lead. sym (c.requires.back to) ∙ e.2 to lead) (sym c.in-Some-named_stream.ensures) in
    unknown_as _ _ _ c.unknown.result (e.1 ∙ found) c.unknown.ensures

pub returns-in-None : goal.returns-in-None
returns-in-None c =
    let unit = c.args.sites.now.unit.now in
    let g = c.args.graph.now in
    let e = c.in-Some.ensures unit g c.requires in
    let o = origin_seen c.in-Some-origin_of.origin in
    finds_by _ _ c.own_attributes.result (e.1 ∙ own_there unit g e.0 c.in-Some.last o (sym c.in-Some-origin_of.ensures) (sym c.in-None.ensures)) c.own_attributes.ensures
