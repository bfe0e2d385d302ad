use Rattle.std.proofs.Common.{Err, Some, ap, subst, sym, ◌∙◌}
use Rattle.std.specs.Str.{bytes_eq}
use Rattle.language_model.specs.BodyTyping.{body_typing}
use Rattle.language_model.specs.Scopes.{at_place, first_from}
use Rattle.language_model.specs.Typing.{after}
use Rattle.body_rules.specs.Settings.{setting_meant}
use Rattle.language_model.specs.Finds.{Finds}
use Rattle.body_rules.specs.Handling.{seen_scope}
use Rattle.body_rules.proofs.HandlersFound.{as_handled, handled_first, port_there}
use Rattle.body_rules.proofs.PutBack.{found_at}
use Rattle.body_rules.proofs.handlers.handled_next.Goals as goal
use Rattle.language_model.proofs.FoundAnswers.{fails, finds_by, stops}
use Rattle.spl_value.proofs.Lists.{get_within}

pub body_on-requires-clause-within : goal.body_on-requires-clause-within
body_on-requires-clause-within c =
    let handler = c.args.handler.now in
    let port = c.in-Some.field-0-1.now in
    let found = port_there c.args.ports.now c.as_slice.result.now handler.what.port.what c.as_slice-name.result.now (Some (at_place c.in-Some.place port)) c.as_slice.ensures c.as_slice-name.ensures c.in-Some.ensures in
    let there = found_at (λ p. bytes_eq p.name handler.what.port.what) c.args.ports.now c.in-Some.place port found in
    get_within c.args.ports.now c.in-Some.place port there

pub returns-in_err-body-clause-code : goal.returns-in_err-body-clause-code
returns-in_err-body-clause-code c =
    let handler = c.args.handler.now in
    let port = c.in-Some.field-0-1.now in
    let found = port_there c.args.ports.now c.as_slice.result.now handler.what.port.what c.as_slice-name.result.now (Some (at_place c.in-Some.place port)) c.as_slice.ensures c.as_slice-name.ensures c.in-Some.ensures in
    let there = found_at (λ p. bytes_eq p.name handler.what.port.what) c.args.ports.now c.in-Some.place port found in
    let setting = setting_meant c.args.setting.now in
    let fresh = handled_first setting c.args.scope.now c.args.before.now handler (first_from (λ p. bytes_eq p.name handler.what.port.what) 0 c.args.ports.now)
    c.in-Some.place c.in_ok-port.port port found c.in_ok-port.ensures (sym c.if-is_handled.false ∙ c.is_handled.ensures) in
    let stopped = c.in_err-body.ensures.code port there in
    fails _ _ _ c.from_residual-in_err-body.ensures.1
    (finds_by _ _ (Err c.in_err-body.field-0.0) fresh
    (stops (body_typing setting (seen_scope c.args.scope.now handler.what.event port) handler.what.body) (as_handled handler.what.event c.in_ok-port.port) c.in_err-body.field-0.0
    (subst (λ b. Finds (body_typing setting (seen_scope c.args.scope.now handler.what.event port) b) (Err c.in_err-body.field-0.0)) c.as_slice-2.ensures stopped)))

pub returns-clause-code : goal.returns-clause-code
returns-clause-code c =
    let handler = c.args.handler.now in
    let port = c.in-Some.field-0-1.now in
    let found = port_there c.args.ports.now c.as_slice.result.now handler.what.port.what c.as_slice-name.result.now (Some (at_place c.in-Some.place port)) c.as_slice.ensures c.as_slice-name.ensures c.in-Some.ensures in
    let there = found_at (λ p. bytes_eq p.name handler.what.port.what) c.args.ports.now c.in-Some.place port found in
    let setting = setting_meant c.args.setting.now in
    let fresh = handled_first setting c.args.scope.now c.args.before.now handler (first_from (λ p. bytes_eq p.name handler.what.port.what) 0 c.args.ports.now)
    c.in-Some.place c.in_ok-port.port port found c.in_ok-port.ensures (sym c.if-is_handled.false ∙ c.is_handled.ensures) in
    fresh
    ∙ ap (λ b. after (body_typing setting (seen_scope c.args.scope.now handler.what.event port) b) (as_handled handler.what.event c.in_ok-port.port)) (sym c.as_slice-2.ensures)
    ∙ ap (λ o. after o (as_handled handler.what.event c.in_ok-port.port)) (c.in_ok-body.ensures.code port there)
