use Rattle.link_queues.proofs.Waits.{taken, taken_option}
use Rattle.link_queues.proofs.link_queues.LinkQueues.pop.Goals as goal

pub returns : goal.returns
returns c =
    taken_option c.self.inside.ends c.self.inside.queues c.self.inside.capacity c.self.inside.entering c.args.link c.item_mut.result.now c.pop.new.self c.item_mut.ensures.item
    c.pop.result c.args.self.now
    (taken c.self.inside.ends c.self.inside.queues c.self.inside.capacity c.self.inside.entering c.args.link c.item_mut.result.now c.pop.new.self c.item_mut.ensures.item
    c.pop.result c.args.self.now c.self.view_is c.pop.ensures.none c.pop.ensures.room)
