use Rattle.spl_value.specs.declared.value.Value.TheVariants as V
use Rattle.language_model.specs.EvaluationLaws.{value_laws}
use Rattle.language_model.specs.StatementLaws.{statement_laws}
use Rattle.stream_model.proofs.react_laws.customs_on_literals.Goals as goal

pub returns-clause-state : goal.returns-clause-state
returns-clause-state c = simp (value_laws, statement_laws, V.outs-Int, V.outs-Bool, V.outs-Tuple)

pub returns-clause-at_window_marker : goal.returns-clause-at_window_marker
returns-clause-at_window_marker c = simp (value_laws, statement_laws, V.outs-Int, V.outs-Bool, V.outs-Tuple)

pub returns-clause-at_end : goal.returns-clause-at_end
returns-clause-at_end c = simp (value_laws, statement_laws, V.outs-Int, V.outs-Bool, V.outs-Tuple)

pub returns-clause-in_order_of_calls : goal.returns-clause-in_order_of_calls
returns-clause-in_order_of_calls c = simp (value_laws, statement_laws, V.outs-Int, V.outs-Bool, V.outs-Tuple)

pub returns-clause-nothing_at_fault : goal.returns-clause-nothing_at_fault
returns-clause-nothing_at_fault c = simp (value_laws, statement_laws, V.outs-Int, V.outs-Bool, V.outs-Tuple)

pub returns-clause-end_of_port : goal.returns-clause-end_of_port
returns-clause-end_of_port c = simp (value_laws, statement_laws, V.outs-Int, V.outs-Bool, V.outs-Tuple)
