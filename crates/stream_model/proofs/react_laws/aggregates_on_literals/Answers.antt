use Rattle.spl_value.proofs.OrderLaws.{order_laws}
use Rattle.spl_value.specs.declared.value.Value.TheVariants as V
use Rattle.language_model.specs.EvaluationLaws.{value_laws}
use Rattle.stream_model.proofs.react_laws.aggregates_on_literals.Goals as goal

pub returns-clause-tumbling_count : goal.returns-clause-tumbling_count
returns-clause-tumbling_count c = simp (value_laws, order_laws, V.outs-Int, V.outs-Bool, V.outs-Tuple)

pub returns-clause-begun_anew : goal.returns-clause-begun_anew
returns-clause-begun_anew c = simp (value_laws, order_laws, V.outs-Int, V.outs-Bool, V.outs-Tuple)

pub returns-clause-other_key : goal.returns-clause-other_key
returns-clause-other_key c = simp (value_laws, order_laws, V.outs-Int, V.outs-Bool, V.outs-Tuple)

pub returns-clause-sliding_count : goal.returns-clause-sliding_count
returns-clause-sliding_count c = simp (value_laws, order_laws, V.outs-Int, V.outs-Bool, V.outs-Tuple)

pub returns-clause-not_full : goal.returns-clause-not_full
returns-clause-not_full c = simp (value_laws, order_laws, V.outs-Int, V.outs-Bool, V.outs-Tuple)

pub returns-clause-by_markers : goal.returns-clause-by_markers
returns-clause-by_markers c = simp (value_laws, order_laws, V.outs-Int, V.outs-Bool, V.outs-Tuple)

pub returns-clause-nothing_at_end : goal.returns-clause-nothing_at_end
returns-clause-nothing_at_end c = simp (value_laws, order_laws, V.outs-Int, V.outs-Bool, V.outs-Tuple)

pub returns-clause-tumbling_delta : goal.returns-clause-tumbling_delta
returns-clause-tumbling_delta c = simp (value_laws, order_laws, V.outs-Int, V.outs-Bool, V.outs-Tuple)

pub returns-clause-sliding_delta : goal.returns-clause-sliding_delta
returns-clause-sliding_delta c = simp (value_laws, order_laws, V.outs-Int, V.outs-Bool, V.outs-Tuple)

pub returns-clause-groups : goal.returns-clause-groups
returns-clause-groups c = simp (value_laws, order_laws, V.outs-Int, V.outs-Bool, V.outs-Tuple)

pub returns-clause-sum_wraps : goal.returns-clause-sum_wraps
returns-clause-sum_wraps c = simp (value_laws, order_laws, V.outs-Int, V.outs-Bool, V.outs-Tuple)

pub returns-clause-argument_faults : goal.returns-clause-argument_faults
returns-clause-argument_faults c = simp (value_laws, order_laws, V.outs-Int, V.outs-Bool, V.outs-Tuple)
