use Rattle.value_operations.proofs.Operands.{not_map_right, keys_rise_right}
use Rattle.value_operations.proofs.operators.has_key.Goals as goal

pub unreachable-requires : goal.unreachable-requires
unreachable-requires c = not_map_right c.args.key.now c.args.map.now c.requires c.in_default.not-Map

pub contains_key-requires : goal.contains_key-requires
contains_key-requires c = keys_rise_right c.args.key.now c.args.map.now c.in-Map.pairs c.requires c.in-Map.is
