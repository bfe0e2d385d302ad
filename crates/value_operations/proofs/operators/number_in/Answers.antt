use Rattle.value_operations.proofs.Operands.{not_integer}
use Rattle.value_operations.proofs.operators.number_in.Goals as goal

pub unreachable-requires : goal.unreachable-requires
unreachable-requires c = not_integer c.args.value.now c.requires c.in_default.not-Int
