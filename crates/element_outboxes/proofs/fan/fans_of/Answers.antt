use Rattle.std.proofs.Common.{arith, refl, get_or}
use Rattle.element_outboxes.proofs.Fans.{port_more}
use Rattle.element_outboxes.proofs.fan.fans_of.Goals as goal

pub overflow_add-first : goal.overflow_add-first
overflow_add-first c =
    let r = port_more c.args.counts.now c.loop-count.count-index (get_or c.args.counts.now c.loop-count.count-index 0) c.loop-count.first c.loop-count.fans c.push.new.self (omega arith) refl
    c.loop-count.invariant.0 c.loop-count.invariant.1 c.in_ok-push.ensures.ok in
    let within = r.2 in let few = c.requires.few in omega (arith, within, few)

pub loop-count-preserved : goal.loop-count-preserved
loop-count-preserved c =
    let r = port_more c.args.counts.now c.loop-count.count-index (get_or c.args.counts.now c.loop-count.count-index 0) c.loop-count.first c.loop-count.fans c.push.new.self (omega arith) refl
    c.loop-count.invariant.0 c.loop-count.invariant.1 c.in_ok-push.ensures.ok in
    (r.0, r.1)
