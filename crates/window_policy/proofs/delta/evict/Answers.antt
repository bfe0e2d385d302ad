use Rattle.std.proofs.Common.{◌∙◌, arith}
use Rattle.window_policy.proofs.Deltas.{passing}
use Rattle.window_policy.proofs.delta.evict.Goals as goal

pub loop-turn-preserved : goal.loop-turn-preserved
loop-turn-preserved c =
    c.pass_first.ensures.items
    ∙ passing c.args.attr _ _ c.loop-turn.turn c.args.kept.now.items c.loop-turn.kept.items (omega arith) c.loop-turn.invariant
