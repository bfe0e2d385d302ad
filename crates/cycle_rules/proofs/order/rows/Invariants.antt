use Rattle.std.proofs.Common.{length, take}
use Rattle.cycle_rules.specs.steps.Makers.{AreRows}
use Rattle.cycle_rules.proofs.order.rows.Given as goal

abbrev pub invariant-loop-op : goal.invariant-loop-op
invariant-loop-op l = AreRows l.streams (length l.ops) (take l.op-index l.ops) l.rows
