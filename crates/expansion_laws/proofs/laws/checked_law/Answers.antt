use Rattle.expansion_laws.proofs.CheckedOrders.{checked_order, same_graph}
use Rattle.expansion_laws.proofs.laws.checked_law.Goals as goal

pub returns : goal.returns
returns c = record { graph = same_graph; order = checked_order c.order_law.ensures.order }
