use Rattle.spl_driver.proofs.SoFar.{empties_more}
use Rattle.spl_driver.proofs.run.empty_lists.Goals as goal

pub loop-list-preserved : goal.loop-list-preserved
loop-list-preserved c = empties_more _ _ _ _ _ c.clear.ensures c.loop-list-test.true c.loop-list.invariant
