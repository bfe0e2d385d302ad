use Rattle.std.specs.Fmt.{decimal}
use Rattle.std.proofs.Common.{◌∙◌, ◌++◌, ap, arith}
use Rattle.arrival_format.proofs.NumberTexts.{no_first_digit, no_next_digit, one_digit, one_more_digit, too_large}
use Rattle.arrival_format.proofs.numbers.first_number.Goals as goal

pub returns-in_err-number : goal.returns-in_err-number
returns-in_err-number c = rw c.from_residual.ensures (no_first_digit c.args.bytes.now c.args.bound (omega arith) c.in_err-number.ensures)

pub returns-then-bound-number : goal.returns-then-bound-number
returns-then-bound-number c =
    let found = c.in_ok-number.ensures in
    too_large c.args.bytes.now c.args.bound (omega arith) c.in_ok-number.number c.in_ok-number.rest.now (one_digit c.in_ok-number.number c.args.bytes.now c.in_ok-number.rest.now found.0 found.1)
    (omega (arith, found.0)) c.if-bound-number.true

pub digits-init : goal.digits-init
digits-init c =
    let found = c.in_ok-number.ensures in
    record { below = c.if-bound-number.false; text = one_digit c.in_ok-number.number c.args.bytes.now c.in_ok-number.rest.now found.0 found.1 }

pub returns-in_err-number-2 : goal.returns-in_err-number-2
returns-in_err-number-2 c =
    let found = c.in-Some.ensures in
    rw c.from_residual-in_err-number-2.ensures
    (no_next_digit c.args.bytes.now c.args.bound (omega arith) c.digits.number c.in-Some.digit c.digits.rest.now c.in-Some.behind.now c.digits.invariant.below c.digits.invariant.text found.0 found.1 c.in_err-number-2.ensures)

pub digits-preserved : goal.digits-preserved
digits-preserved c =
    let found = c.in-Some.ensures in
    let next = c.in_ok-number-2.ensures in
    record {
      below = next.2;
      text = c.digits.invariant.text ∙ ap (λ xs. decimal c.digits.number ++ xs) found.1
          ∙ one_more_digit c.digits.number c.in-Some.digit c.in_ok-number-2.number c.in-Some.behind.now next.0 found.0 next.1 (let small = next.2 in omega (arith, small));
    }
