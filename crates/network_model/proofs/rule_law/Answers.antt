use Rattle.network_model.proofs.ElementRule.{rule-begins, rule-cuts, rule-puts, rule-takes}
use Rattle.network_model.proofs.rule_law.Goals as goal

pub returns-clause-begins : goal.returns-clause-begins
returns-clause-begins c = rule-begins

pub returns-clause-takes : goal.returns-clause-takes
returns-clause-takes c = rule-takes

pub returns-clause-puts : goal.returns-clause-puts
returns-clause-puts c = rule-puts

pub returns-clause-cuts : goal.returns-clause-cuts
returns-clause-cuts c = rule-cuts
