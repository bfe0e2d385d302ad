use Rattle.std.proofs.Common.{◌∙◌, arith, length-set}
use Rattle.link_queues.specs.Ends.{receiver}
use Rattle.link_queues.proofs.Listing.{lists_next}
use Rattle.link_queues.proofs.ends.entering_links.Goals as goal

pub links-preserved : goal.links-preserved
links-preserved c = (
  omega (arith, c.links.invariant.0),
  length-set c.links.rows _ c.push.new.self ∙ c.links.invariant.1,
  lists_next receiver c.args.links.now c.links.link-index c.links.number _ c.links.rows c.item_mut.result.now c.push.new.self (omega arith) c.links.invariant.0 c.links.invariant.2
      c.item_mut.ensures.item c.in_ok-push.ensures.ok,
)
