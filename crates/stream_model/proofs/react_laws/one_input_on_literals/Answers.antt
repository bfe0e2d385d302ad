use Rattle.spl_value.proofs.OrderLaws.{order_laws}
use Rattle.spl_value.specs.declared.value.Value.TheVariants as V
use Rattle.language_model.specs.EvaluationLaws.{value_laws}
use Rattle.stream_model.proofs.react_laws.one_input_on_literals.Goals as goal

pub returns-clause-filter : goal.returns-clause-filter
returns-clause-filter c = simp (value_laws, order_laws, V.outs-Int, V.outs-Bool, V.outs-Tuple)

pub returns-clause-functor_faults : goal.returns-clause-functor_faults
returns-clause-functor_faults c = simp (value_laws, order_laws, V.outs-Int, V.outs-Bool, V.outs-Tuple)

pub returns-clause-functor_filters : goal.returns-clause-functor_filters
returns-clause-functor_filters c = simp (value_laws, order_laws, V.outs-Int, V.outs-Bool, V.outs-Tuple)

pub returns-clause-functor_wraps : goal.returns-clause-functor_wraps
returns-clause-functor_wraps c = simp (value_laws, order_laws, V.outs-Int, V.outs-Bool, V.outs-Tuple)

pub returns-clause-misfit : goal.returns-clause-misfit
returns-clause-misfit c = simp (value_laws, order_laws, V.outs-Int, V.outs-Bool, V.outs-Tuple)

pub returns-clause-marker_before : goal.returns-clause-marker_before
returns-clause-marker_before c = simp (value_laws, order_laws, V.outs-Int, V.outs-Bool, V.outs-Tuple)

pub returns-clause-marker_after : goal.returns-clause-marker_after
returns-clause-marker_after c = simp (value_laws, order_laws, V.outs-Int, V.outs-Bool, V.outs-Tuple)

pub returns-clause-split_first : goal.returns-clause-split_first
returns-clause-split_first c = simp (value_laws, order_laws, V.outs-Int, V.outs-Bool, V.outs-Tuple)

pub returns-clause-split_second : goal.returns-clause-split_second
returns-clause-split_second c = simp (value_laws, order_laws, V.outs-Int, V.outs-Bool, V.outs-Tuple)
