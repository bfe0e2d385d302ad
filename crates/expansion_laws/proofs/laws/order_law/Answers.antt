use Rattle.expansion_laws.proofs.Orders.{order_law}
use Rattle.expansion_laws.proofs.laws.order_law.Goals as goal

pub returns : goal.returns
returns c = record { order = order_law }
