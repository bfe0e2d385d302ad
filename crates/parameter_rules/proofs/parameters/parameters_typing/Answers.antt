use Rattle.std.specs.Prelude.{map, reverse, drop, ◌+◌, Err}
use Rattle.std.proofs.Common.{ap, sym, ◌∙◌}
use Rattle.language_model.specs.ParameterTyping.{parameters_typing}
use Rattle.language_model.specs.Finds.{with_front}
use Rattle.literal_sites.specs.Sites.{site_seen}
use Rattle.literal_sites.proofs.Answering.{fails_by, row_on, row_stops}
use Rattle.parameter_rules.proofs.Giving.{parameter_behind, parameters_row}
use Rattle.literal_sites.proofs.Lists.{keys_more}
use Rattle.parameter_rules.proofs.parameters.parameters_typing.Goals as goal
use Rattle.language_model.proofs.FoundAnswers.{finds_by}

pub returns-in_err-next : goal.returns-in_err-next
returns-in_err-next c =
    let site = site_seen c.args.site.now in
    let given = c.loop-parameter.given in
    let e = c.in_err-next.field-0.0 in
    fails_by _ _ _ e c.from_residual.ensures.1 c.loop-parameter.invariant
    (row_stops (parameter_behind site c.args.kind c.args.partitioned) (parameters_typing site c.args.kind c.args.partitioned) (λ g. g.name)
    (parameters_row site c.args.kind c.args.partitioned) c.args.parameters.now c.loop-parameter.parameter-index given
    (reverse (map (λ g. g.name) given)) c.parameter-item.result c.loop-parameter-test.true c.parameter-item.is e
    (finds_by _ _ (Err e) (ap (λ gs. parameter_behind site c.args.kind c.args.partitioned (reverse (map (λ g. g.name) gs)) c.parameter-item.result) (sym c.as_slice.ensures)) c.in_err-next.ensures))

pub loop-parameter-preserved : goal.loop-parameter-preserved
loop-parameter-preserved c =
    let site = site_seen c.args.site.now in
    let given = c.loop-parameter.given in
    c.loop-parameter.invariant
    ∙ row_on (parameter_behind site c.args.kind c.args.partitioned) (parameters_typing site c.args.kind c.args.partitioned) (λ g. g.name)
    (parameters_row site c.args.kind c.args.partitioned) c.args.parameters.now c.loop-parameter.parameter-index given
    (reverse (map (λ g. g.name) given)) c.parameter-item.result c.loop-parameter-test.true c.parameter-item.is c.in_ok-next.next c.push.new.self
    (ap (λ gs. parameter_behind site c.args.kind c.args.partitioned (reverse (map (λ g. g.name) gs)) c.parameter-item.result) (sym c.as_slice.ensures) ∙ c.in_ok-next.ensures)
    c.in_ok-push.ensures.ok
    ∙ ap (λ before. with_front c.push.new.self (parameters_typing site c.args.kind c.args.partitioned before (drop (c.loop-parameter.parameter-index + 1) c.args.parameters.now)))
    (sym (keys_more (λ g. g.name) given c.push.new.self c.in_ok-next.next c.in_ok-push.ensures.ok))
