use Rattle.link_queues.proofs.Waits.{viewed_none}
use Rattle.link_queues.proofs.link_queues.LinkQueues.new.Goals as goal

pub returns : goal.returns
returns c =
    viewed_none c.args.ends c.in_ok-queues.queues c.args.capacity c.in_ok-entering.entering c.args.elements c.len.result c.len.ensures c.in_ok-queues.ensures
    c.in_ok-entering.ensures.many
