use Rattle.std.proofs.Common.{length, subst}
use Rattle.value_operations.specs.Answers.{StopsAs}
use Rattle.stream_model.specs.PathLaws.{fault_by}
use Rattle.stream_model.specs.React.{answer}
use Rattle.port_reacts.proofs.Answering.{ends_not_out, memory_replies, replies_faulted}
use Rattle.port_reacts.proofs.checked_operator.CheckedOperator.stopped.Goals as goal

pub returns-in-Fault-clause-replies : goal.returns-in-Fault-clause-replies
returns-in-Fault-clause-replies c o stops =
    replies_faulted c.args.self.now.number (length c.args.self.now.op.now.outs) o c.in-Fault.kind c.faulted.result (subst (StopsAs o) c.in-Fault.is stops) c.faulted.ensures

pub returns-in-Fault-clause-ends : goal.returns-in-Fault-clause-ends
returns-in-Fault-clause-ends c = ends_not_out (length c.args.self.now.op.now.outs) (fault_by c.args.self.now.number c.in-Fault.kind) c.faulted.result _ c.faulted.ensures

pub returns-in-Memory-clause-replies : goal.returns-in-Memory-clause-replies
returns-in-Memory-clause-replies c o stops = memory_replies c.args.self.now.number (length c.args.self.now.op.now.outs) (answer o)
