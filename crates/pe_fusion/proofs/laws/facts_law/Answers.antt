use Rattle.pe_fusion.proofs.Facts.{facts_law, order_law}
use Rattle.pe_fusion.proofs.laws.facts_law.Goals as goal

pub returns-clause-facts : goal.returns-clause-facts
returns-clause-facts c = facts_law

pub returns-clause-order : goal.returns-clause-order
returns-clause-order c = order_law
