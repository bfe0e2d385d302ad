use Rattle.std.proofs.Common.{Err, ap, subst, sym, ◌∙◌}
use Rattle.std.specs.Str.{bytes_eq}
use Rattle.language_model.specs.Scopes.{first_from}
use Rattle.body_rules.specs.Settings.{setting_meant}
use Rattle.language_model.specs.Finds.{Finds}
use Rattle.body_rules.specs.Handling.{handled_in}
use Rattle.body_rules.proofs.HandlersFound.{comes_on, comes_out}
use Rattle.body_rules.proofs.handlers.handlers_of.Goals as goal
use Rattle.language_model.proofs.FoundAnswers.{fails}

pub returns-in_err-next-clause-code : goal.returns-in_err-next-clause-code
returns-in_err-next-clause-code c =
    let setting = setting_meant c.args.setting.now in
    let h = c.handler-item.result in
    let o = first_from (λ p. bytes_eq p.name h.what.port.what) 0 c.loop-handler.ports in
    fails _ _ _ c.from_residual.ensures.1
    (comes_out setting c.args.scope.now c.args.ports.now c.args.handlers.now c.loop-handler.scope c.loop-handler.ports c.loop-handler.handled c.loop-handler.handler-index
    c.loop-handler.invariant h c.loop-handler-test.true c.handler-item.is c.in_err-next.field-0.0
    (subst (λ b. Finds (handled_in setting c.loop-handler.scope b h o) (Err c.in_err-next.field-0.0)) c.as_slice.ensures c.in_err-next.ensures.code))

pub loop-handler-preserved : goal.loop-handler-preserved
loop-handler-preserved c =
    let setting = setting_meant c.args.setting.now in
    let h = c.handler-item.result in
    let o = first_from (λ p. bytes_eq p.name h.what.port.what) 0 c.loop-handler.ports in
    comes_on setting c.args.scope.now c.args.ports.now c.args.handlers.now c.loop-handler.scope c.loop-handler.ports c.loop-handler.handled c.loop-handler.handler-index
    c.loop-handler.invariant h c.loop-handler-test.true c.handler-item.is c.in_ok-next.next c.handled_next.new.scope c.handled_next.new.ports c.push.new.self
    (ap (λ b. handled_in setting c.loop-handler.scope b h o) (sym c.as_slice.ensures) ∙ c.in_ok-next.ensures.code)
    c.in_ok-next.ensures.same_scope c.in_ok-next.ensures.same_ports c.in_ok-push.ensures.ok
