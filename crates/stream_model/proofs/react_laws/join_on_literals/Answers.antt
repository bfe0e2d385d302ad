use Rattle.spl_value.proofs.OrderLaws.{order_laws}
use Rattle.spl_value.specs.declared.value.Value.TheVariants as V
use Rattle.language_model.specs.EvaluationLaws.{value_laws}
use Rattle.stream_model.proofs.react_laws.join_on_literals.Goals as goal

pub returns-clause-matches : goal.returns-clause-matches
returns-clause-matches c = simp (value_laws, order_laws, V.outs-Int, V.outs-Bool, V.outs-Tuple)

pub returns-clause-evicted : goal.returns-clause-evicted
returns-clause-evicted c = simp (value_laws, order_laws, V.outs-Int, V.outs-Bool, V.outs-Tuple)
