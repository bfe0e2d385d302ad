use Rattle.spl_value.specs.declared.value.Value.TheVariants as V
use Rattle.language_model.specs.EvaluationLaws.{value_laws}
use Rattle.stream_model.proofs.record_laws.records_on_literals.Goals as goal

pub returns-clause-by_own_fault : goal.returns-clause-by_own_fault
returns-clause-by_own_fault c = simp (value_laws, V.outs-List, V.outs-Int)

pub returns-clause-behind_own_fault : goal.returns-clause-behind_own_fault
returns-clause-behind_own_fault c = simp (value_laws, V.outs-List, V.outs-Int)

pub returns-clause-up_to_own_fault : goal.returns-clause-up_to_own_fault
returns-clause-up_to_own_fault c = simp (value_laws, V.outs-List, V.outs-Int)
