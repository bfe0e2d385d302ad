use Rattle.std.proofs.Common.{sym, ◌∙◌}
use Rattle.cycle_rules.proofs.Flags.{counted}
use Rattle.cycle_rules.proofs.order.first_outside.Goals as goal

pub loop-number-preserved : goal.loop-number-preserved
loop-number-preserved c =
    c.loop-number.invariant
    ∙ counted c.args.order.now c.loop-number.number c.args.count c.loop-number-test.true (sym c.is_among.ensures ∙ c.if-not-is_among.false)
