use Rattle.std.proofs.Common.{◌∙◌, sym, arith}
use Rattle.window_policy.proofs.Deltas.{rises_at}
use Rattle.window_policy.proofs.delta.is_rising.Goals as goal

pub loop-i-preserved : goal.loop-i-preserved
loop-i-preserved c =
    rises_at c.args.attr c.loop-i.i c.args.kept.now.items (omega arith) (omega arith) (λ t u one two. sym (c.falls_at.ensures t u one two) ∙ c.if-falls_at.false) c.loop-i.invariant
