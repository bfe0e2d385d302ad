use Rattle.std.proofs.Common.{arith}
use Rattle.arrival_format.proofs.InputTexts.{no_inputs, no_line_feed, no_number}
use Rattle.arrival_format.proofs.numbers.read_inputs.Goals as goal

pub returns-in_default-first_number-clause-bad : goal.returns-in_default-first_number-clause-bad
returns-in_default-first_number-clause-bad c =
    let so_far = c.inputs.invariant in
    λ bad. no_number c.args.bytes.now c.inputs.inputs c.inputs.rest.now c.args.bound (omega arith) so_far.text so_far.below so_far.ended c.in-Some.digits.now c.in-Some.ensures c.in_default-first_number.ensures

pub returns-then-is_empty-clause-bad : goal.returns-then-is_empty-clause-bad
returns-then-is_empty-clause-bad c =
    let so_far = c.inputs.invariant in
    λ bad. no_inputs c.args.bytes.now c.inputs.inputs c.inputs.rest.now c.args.bound (omega arith) so_far.text so_far.below so_far.ended c.in_default.ensures (c.is_empty.ensures.0 c.if-is_empty.true)

pub returns-clause-bad : goal.returns-clause-bad
returns-clause-bad c =
    let so_far = c.inputs.invariant in
    λ bad. no_line_feed c.args.bytes.now c.inputs.inputs c.inputs.rest.now c.args.bound (omega arith) so_far.text so_far.below so_far.ended c.in_default.ensures c.in-None.ensures
