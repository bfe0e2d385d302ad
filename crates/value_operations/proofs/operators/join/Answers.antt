use Rattle.value_operations.proofs.Operands.{not_text_left, not_text_right}
use Rattle.value_operations.proofs.operators.join.Goals as goal

pub unreachable-requires : goal.unreachable-requires
unreachable-requires c = not_text_left c.args.left.now c.args.right.now c.requires c.in_default.not-Text

pub unreachable-requires-in_default-right : goal.unreachable-requires-in_default-right
unreachable-requires-in_default-right c = not_text_right c.args.left.now c.args.right.now c.requires c.in_default-right.not-Text
