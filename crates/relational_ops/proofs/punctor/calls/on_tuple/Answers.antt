use Rattle.std.proofs.Common.{length}
use Rattle.relational_ops.proofs.Evaluations.{punctor_fault}
use Rattle.relational_ops.proofs.punctor.calls.on_tuple.Goals as goal

pub returns-in-Faulted-clause-replies : goal.returns-in-Faulted-clause-replies
returns-in-Faulted-clause-replies c = punctor_fault c.args.at.now.number (length c.args.at.now.op.now.outs) c.args.at.now.checked.now.functions c.args.condition.now c.args.position c.args.values _ c.faulted.result c.in-Faulted.ensures.judged c.faulted.ensures
