use Rattle.spl_value.proofs.FitsLaws.{int_from_fits}
use Rattle.builtin_calls.proofs.Opposites.{opposite_fits}
use Rattle.builtin_calls.proofs.integers.abs.Goals as goal

pub unreachable-requires : goal.unreachable-requires
unreachable-requires c = let is = int_from_fits c.args.kind c.args.n.now c.requires in c.in_default.not-Int is.0 is.1

pub abs-requires : goal.abs-requires
abs-requires c = opposite_fits c.args.kind c.args.n.now c.in-Int.n c.requires c.in-Int.is
