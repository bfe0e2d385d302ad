use Rattle.builtin_calls.proofs.Shapes.{not_collection}
use Rattle.builtin_calls.proofs.collections.size.Goals as goal

pub unreachable-requires : goal.unreachable-requires
unreachable-requires c = not_collection c.args.of.now c.requires c.in_default.not-List c.in_default.not-Map
