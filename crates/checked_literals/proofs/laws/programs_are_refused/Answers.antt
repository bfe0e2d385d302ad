use Rattle.checked_literals.proofs.Refusals.{group_refused, partition_refused, config_first_refused, types_first_refused, ports_refused, types_refused, rows_refused, unknown_refused, width_refused, parameter_refused, missing_refused, window_refused, config_refused, extra_window_refused, value_refused, attribute_refused, logic_refused, state_refused, mutable_refused, statement_refused, submit_refused, function_refused, in_text_refused}
use Rattle.checked_literals.proofs.laws.programs_are_refused.Goals as goal

pub returns-clause-ports : goal.returns-clause-ports
returns-clause-ports c = ports_refused

pub returns-clause-types : goal.returns-clause-types
returns-clause-types c = types_refused

pub returns-clause-rows : goal.returns-clause-rows
returns-clause-rows c = rows_refused

pub returns-clause-unknown : goal.returns-clause-unknown
returns-clause-unknown c = unknown_refused

pub returns-clause-width : goal.returns-clause-width
returns-clause-width c = width_refused

pub returns-clause-parameter : goal.returns-clause-parameter
returns-clause-parameter c = parameter_refused

pub returns-clause-missing : goal.returns-clause-missing
returns-clause-missing c = missing_refused

pub returns-clause-window : goal.returns-clause-window
returns-clause-window c = window_refused

pub returns-clause-config : goal.returns-clause-config
returns-clause-config c = config_refused

pub returns-clause-extra_window : goal.returns-clause-extra_window
returns-clause-extra_window c = extra_window_refused

pub returns-clause-value : goal.returns-clause-value
returns-clause-value c = value_refused

pub returns-clause-attribute : goal.returns-clause-attribute
returns-clause-attribute c = attribute_refused

pub returns-clause-logic : goal.returns-clause-logic
returns-clause-logic c = logic_refused

pub returns-clause-state : goal.returns-clause-state
returns-clause-state c = state_refused

pub returns-clause-mutable : goal.returns-clause-mutable
returns-clause-mutable c = mutable_refused

pub returns-clause-statement : goal.returns-clause-statement
returns-clause-statement c = statement_refused

pub returns-clause-submit : goal.returns-clause-submit
returns-clause-submit c = submit_refused

pub returns-clause-function : goal.returns-clause-function
returns-clause-function c = function_refused

pub returns-clause-in_text : goal.returns-clause-in_text
returns-clause-in_text c = in_text_refused

pub returns-clause-types_first : goal.returns-clause-types_first
returns-clause-types_first c = types_first_refused

pub returns-clause-config_first : goal.returns-clause-config_first
returns-clause-config_first c = config_first_refused

pub returns-clause-partition : goal.returns-clause-partition
returns-clause-partition c = partition_refused

pub returns-clause-group : goal.returns-clause-group
returns-clause-group c = group_refused
