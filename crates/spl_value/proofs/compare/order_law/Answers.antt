use Rattle.spl_value.proofs.OrderLaws.{value_cmp_total, value_cmp-itself, value_cmp-Equal}
use Rattle.spl_value.proofs.compare.order_law.Goals as goal

pub returns-clause-reflexive : goal.returns-clause-reflexive
returns-clause-reflexive c = value_cmp-itself

pub returns-clause-turned : goal.returns-clause-turned
returns-clause-turned c = λ v w. value_cmp_total.antisymm w v

pub returns-clause-transitive : goal.returns-clause-transitive
returns-clause-transitive c = value_cmp_total.trans

pub returns-clause-equal : goal.returns-clause-equal
returns-clause-equal c = value_cmp-Equal
