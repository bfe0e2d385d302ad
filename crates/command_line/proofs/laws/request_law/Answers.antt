use Rattle.command_line.proofs.Forms.{two_forms}
use Rattle.command_line.proofs.Orders.{any_order}
use Rattle.command_line.proofs.laws.request_law.Goals as goal

pub returns-clause-two_forms : goal.returns-clause-two_forms
returns-clause-two_forms c = two_forms

pub returns-clause-any_order : goal.returns-clause-any_order
returns-clause-any_order c = any_order
