use Rattle.channel_heads.proofs.HeadLists.{drops_more}
use Rattle.channel_heads.proofs.heads.drop_heads.Goals as goal

pub loop-head-preserved : goal.loop-head-preserved
loop-head-preserved c = drops_more _ _ _ c.loop-head-test.true c.loop-head.invariant
