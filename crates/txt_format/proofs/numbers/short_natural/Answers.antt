use Rattle.std.proofs.Common.{arith, sym, ◌∙◌}
use Rattle.spl_value.proofs.Powers.{places, power_below}
use Rattle.txt_format.proofs.ShortNumbers.{short_number}
use Rattle.txt_format.proofs.numbers.short_natural.Goals as goal

pub overflow_mul-n : goal.overflow_mul-n
overflow_mul-n c = omega (arith, places c.digits.i (omega arith))

pub overflow_add-n : goal.overflow_add-n
overflow_add-n c = omega (arith, places c.digits.i (omega arith), c.from.ensures)

pub returns-then-not-is_digit : goal.returns-then-not-is_digit
returns-then-not-is_digit c =
    short_number c.args.text.now c.digits.i c.digits.n c.if-i-eq0.false c.digits-test.true c.digits.invariant.value c.digits.invariant.digits (sym c.is_digit.ensures ∙ c.if-not-is_digit.true)
    c.if-b-eq45.false (power_below c.digits.n c.digits.i 18 c.digits.invariant.small c.digits.invariant.few)
