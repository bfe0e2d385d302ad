use Rattle.spl_value.proofs.FitsLaws.{bool_from_fits}
use Rattle.value_operations.proofs.slots.truth_of.Goals as goal

pub unreachable-requires : goal.unreachable-requires
unreachable-requires c = let is = bool_from_fits c.args.value.now c.requires in c.in_default.not-Bool is.0 is.1
