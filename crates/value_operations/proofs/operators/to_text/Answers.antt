use Rattle.value_operations.proofs.Operands.{not_shown}
use Rattle.value_operations.proofs.operators.to_text.Goals as goal

pub unreachable-requires : goal.unreachable-requires
unreachable-requires c = not_shown c.args.value.now c.requires c.in_default.not-Int c.in_default.not-Bool
