use Rattle.value_operations.proofs.changes.clear.Goals as goal
use Rattle.builtin_calls.proofs.Shapes.{not_collection}

pub unreachable-requires : goal.unreachable-requires
unreachable-requires c = not_collection c.args.value.now c.requires c.in_default.not-List c.in_default.not-Map
