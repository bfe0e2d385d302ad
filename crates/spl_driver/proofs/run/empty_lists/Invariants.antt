use Rattle.std.proofs.Common.{◌≡◌}
use Rattle.spl_driver.proofs.SoFar.{emptied_before}
use Rattle.spl_driver.proofs.run.empty_lists.Given as goal

abbrev pub invariant-loop-list : goal.invariant-loop-list
invariant-loop-list l = l.lists ≡ emptied_before l.list-index l.initial.lists
