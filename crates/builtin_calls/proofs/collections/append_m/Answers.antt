use Rattle.spl_value.proofs.FitsLaws.{list_from_fits}
use Rattle.builtin_calls.proofs.collections.append_m.Goals as goal

pub unreachable-requires : goal.unreachable-requires
unreachable-requires c = let is = list_from_fits c.requires.0 c.args.list c.requires.1 in c.in_default.ensures is.0 is.1
