use Rattle.element_laws.proofs.Putting.{owes_law, puts_law}
use Rattle.element_laws.proofs.laws.puts_law.Goals as goal

pub returns-clause-owes : goal.returns-clause-owes
returns-clause-owes c start = owes_law

pub returns-clause-puts : goal.returns-clause-puts
returns-clause-puts c start = puts_law _ _
