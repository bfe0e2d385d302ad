use Rattle.value_operations.proofs.Operands.{integer_operands, holds_in_128, relation}
use Rattle.value_operations.proofs.operators.binary_of.Goals as goal

pub on_integers-requires-clause-left_in : goal.on_integers-requires-clause-left_in
on_integers-requires-clause-left_in c =
    let both = integer_operands c.args.left.now c.args.right.now c.args.operator c.in-Integers.operator c.in-Integers.kind c.in-Integers.is c.requires in
    holds_in_128 c.in-Integers.kind c.args.left.now c.number_in.result both.0 c.number_in.ensures

pub on_integers-requires-clause-right_in : goal.on_integers-requires-clause-right_in
on_integers-requires-clause-right_in c =
    let both = integer_operands c.args.left.now c.args.right.now c.args.operator c.in-Integers.operator c.in-Integers.kind c.in-Integers.is c.requires in
    holds_in_128 c.in-Integers.kind c.args.right.now c.number_in-in-Integers.result both.1 c.number_in-in-Integers.ensures

pub are_related-requires : goal.are_related-requires
are_related-requires c = relation c.args.left.now c.args.right.now c.args.operator c.requires c.in_default.not-Integers c.in_default.not-Join
