use Rattle.std.proofs.Common.{◌∙◌, arith, length-set, refl}
use Rattle.element_notes.proofs.UnreadPorts.{hows-next}
use Rattle.element_notes.proofs.ends.set_hows.Goals as goal

pub loop-end-preserved : goal.loop-end-preserved
loop-end-preserved c =
    let was = c.loop-end.invariant in
    let next = hows-next c.args.how c.loop-end.ends c.args.ends.now c.loop-end.end-index _ _ (omega arith) was.2 refl was.0 was.1 in
    (next.0, next.1, length-set c.loop-end.ends c.loop-end.end-index _ ∙ was.2)
