use Rattle.spl_value.proofs.FitsLaws.{map_from_fits}
use Rattle.builtin_calls.proofs.Shapes.{are_pairs_of}
use Rattle.builtin_calls.proofs.collections.remove_m.Goals as goal

pub unreachable-requires : goal.unreachable-requires
unreachable-requires c = let is = map_from_fits c.requires.0 c.requires.1 c.args.map c.requires.2 in c.in_default.ensures is.0 is.1

pub remove_key-requires : goal.remove_key-requires
remove_key-requires c = are_pairs_of c.requires.0 c.requires.1 c.args.map c.in-Some.pairs c.in-Some.ensures c.requires.2
