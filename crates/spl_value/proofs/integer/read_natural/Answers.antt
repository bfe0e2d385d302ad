use Rattle.std.proofs.Common.{arith}
use Rattle.spl_value.proofs.Powers.{places, power_below}
use Rattle.spl_value.proofs.integer.read_natural.Goals as goal

pub overflow_mul-n : goal.overflow_mul-n
overflow_mul-n c = omega (arith, places c.loop-b.b-index (omega arith))

pub overflow_add-n : goal.overflow_add-n
overflow_add-n c = omega (arith, places c.loop-b.b-index (omega arith), c.from.ensures)

pub returns-clause-small : goal.returns-clause-small
returns-clause-small c = power_below c.loop-b.n c.loop-b.b-index 18 c.loop-b.invariant.small (omega arith)
