use Rattle.spl_tree.specs.declared.code.Code.TheVariants as C
use Rattle.stream_model.proofs.SomePlans.{shared_plan, other_plan}
use Rattle.stream_model.proofs.plan_laws.plans_on_literals.Goals as goal

pub returns-clause-shared : goal.returns-clause-shared
returns-clause-shared c = shared_plan

pub returns-clause-not_shared : goal.returns-clause-not_shared
returns-clause-not_shared c = other_plan

pub returns-clause-made_anew : goal.returns-clause-made_anew
returns-clause-made_anew c = simp (C.outs-Name, C.outs-Tuple, C.outs-Binary)
