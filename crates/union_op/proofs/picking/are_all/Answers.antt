use Rattle.std.proofs.Common.{arith}
use Rattle.union_op.proofs.ValuesAt.{all_places}
use Rattle.union_op.proofs.picking.are_all.Goals as goal

pub returns : goal.returns
returns c holds vs width = all_places vs c.args.places.now (omega (arith, width, c.if-places-width.false)) (λ k lt. c.loop-i.invariant k (omega arith))
