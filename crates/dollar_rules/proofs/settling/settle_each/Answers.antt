use Rattle.std.proofs.Common.{arith}
use Rattle.dollar_rules.proofs.settling.settle_each.Goals as goal

pub returns-clause-done : goal.returns-clause-done
returns-clause-done c = λ k h. c.loop-at.invariant.done k (omega arith)
