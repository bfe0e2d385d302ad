use Rattle.spl_value.proofs.OrderLaws.{order_laws}
use Rattle.stream_model.proofs.group_laws.groups_on_literals.Goals as goal

pub returns-clause-by_text : goal.returns-clause-by_text
returns-clause-by_text c = simp order_laws

pub returns-clause-order_of_places : goal.returns-clause-order_of_places
returns-clause-order_of_places c = simp order_laws
