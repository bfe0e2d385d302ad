use Rattle.std.proofs.Common.{ap, sym, ◌∙◌, arith, slice_get}
use Rattle.element_outboxes.proofs.Fans.{fan_at, fan_past}
use Rattle.element_outboxes.proofs.fan.fan_of.Goals as goal

pub returns-in-Some-clause-outputs : goal.returns-in-Some-clause-outputs
returns-in-Some-clause-outputs c counts e = (fan_at 0 counts c.args.port c.in-Some.fan.now (ap (λ t. slice_get t c.args.port) (sym e) ∙ sym c.in-Some.ensures.value)).0

pub returns-in-Some-clause-within : goal.returns-in-Some-clause-within
returns-in-Some-clause-within c counts e few =
    let r = fan_at 0 counts c.args.port c.in-Some.fan.now (ap (λ t. slice_get t c.args.port) (sym e) ∙ sym c.in-Some.ensures.value) in
    let within = r.1 in omega (arith, within, few)

pub returns-in-None-clause-outputs : goal.returns-in-None-clause-outputs
returns-in-None-clause-outputs c counts e = sym (fan_past 0 counts c.args.port (ap (λ t. slice_get t c.args.port) (sym e) ∙ sym c.in-None.ensures.value))
