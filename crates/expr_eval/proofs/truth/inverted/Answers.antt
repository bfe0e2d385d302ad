use Rattle.std.proofs.Common.{arith}
use Rattle.expr_eval.proofs.Truths.{flipped_more, inverted_is}
use Rattle.expr_eval.proofs.truth.inverted.Goals as goal

pub loop-preserved : goal.loop-preserved
loop-preserved c = flipped_more c.loop.index c.args.truth c.loop.inverted c.loop.invariant

pub returns : goal.returns
returns c = inverted_is c.args.operators.now c.args.truth c.loop.inverted c.loop.index c.requires c.loop.invariant (omega arith)
