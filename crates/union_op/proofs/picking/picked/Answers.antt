use Rattle.std.proofs.Common.{arith, ◌∙◌}
use Rattle.union_op.proofs.ValuesAt.{first_there}
use Rattle.union_op.proofs.picking.picked.Goals as goal

pub take_value-requires : goal.take_value-requires
take_value-requires c =
    first_there c.loop-i.left c.requires.0 c.args.places.now c.loop-i.i c.loop-i.picked (omega arith) (c.loop-i.invariant ∙ c.requires.1)
