use Rattle.spl_value.proofs.FitsLaws.{map_from_fits}
use Rattle.builtin_calls.proofs.Shapes.{are_pairs_of}
use Rattle.builtin_calls.proofs.collections.has.Goals as goal

pub unreachable-requires : goal.unreachable-requires
unreachable-requires c = let is = map_from_fits c.requires.0 c.requires.1 c.args.map.now c.requires.2 in c.in_default.not-Map is.0 is.1

pub contains_key-requires : goal.contains_key-requires
contains_key-requires c = are_pairs_of c.requires.0 c.requires.1 c.args.map.now c.in-Map.pairs c.in-Map.is c.requires.2
