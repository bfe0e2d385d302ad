use Rattle.std.proofs.Common.{arith}
use Rattle.spl_value.proofs.Powers.{places, power_below}
use Rattle.row_reader.proofs.short.leading_digits.Goals as goal

pub overflow_mul-n : goal.overflow_mul-n
overflow_mul-n c = omega (arith, places c.digits.end (omega arith))

pub overflow_add-n : goal.overflow_add-n
overflow_add-n c = omega (arith, places c.digits.end (omega arith), c.from.ensures)

pub returns-then-b-lt48-clause-small : goal.returns-then-b-lt48-clause-small
returns-then-b-lt48-clause-small c = power_below c.digits.n c.digits.end 18 c.digits.invariant.small c.digits.invariant.few

pub returns-after-digits-clause-small : goal.returns-after-digits-clause-small
returns-after-digits-clause-small c = power_below c.digits.n c.digits.end 18 c.digits.invariant.small c.digits.invariant.few
