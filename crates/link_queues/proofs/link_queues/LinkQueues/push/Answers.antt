use Rattle.link_queues.proofs.Waits.{pushed}
use Rattle.link_queues.proofs.link_queues.LinkQueues.push.Goals as goal

pub returns : goal.returns
returns c =
    pushed c.self.inside.ends c.self.inside.queues c.self.inside.capacity c.self.inside.entering c.args.link c.item_mut.result.now c.push.new.self c.item_mut.ensures.item
    c.args.self.now c.args.packet c.self.view_is c.push.ensures
