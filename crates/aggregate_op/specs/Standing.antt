-- The histories by ports that an Aggregate represents: what it keeps of its window represents what came on its
-- port, where each tuple has the values of its arguments after it.
use Rattle.std.specs.Prelude.{◌≡◌, true, List, length}
use Rattle.spl_value.specs.declared.value.Value.{Value}
use Rattle.language_model.specs.declared.checked.CheckedClauses.TheVariants as A
use Rattle.language_model.specs.declared.env.Env.{Env}
use Rattle.stream_model.specs.CheckedMeaning.{operator_with}
use Rattle.stream_model.specs.Operators.{Operator, input_attributes}
use Rattle.stream_model.specs.PortEvents.{port_items}
use Rattle.stream_model.specs.Stream.{Event}
use Rattle.stream_model.specs.Windows.{WindowEvent, partition_key, window_events}
use Rattle.stream_model.specs.WindowLaws.{mapped}
use Rattle.port_reacts.specs.PortReplies.{goes_on}
use Rattle.aggregate_op.specs.declared.clauses.Clauses.{Clauses}
use Rattle.aggregate_op.specs.declared.kept.Kept.{Kept}
use Rattle.port_reacts.specs.Evaluation.{idle}
use Rattle.aggregate_op.specs.Arguments.{extended}
use Rattle.aggregate_op.specs.Kept.{KeptStands}

-- the key of a tuple, and the tuple as it goes into the window, with its arguments after its own values
abbrev pub key_of_tuple : Clauses → List Value → List Value
key_of_tuple clauses t = partition_key clauses.window.now clauses.partition.now t

abbrev pub tuple_with_arguments : Clauses → List Value → List Value
tuple_with_arguments clauses t = extended clauses.at.checked.now.functions clauses.output.now t

-- the operator with these clauses
abbrev pub operator_of : Clauses → Operator
operator_of clauses = operator_with clauses.at.checked.now clauses.at.number clauses.at.op.now clauses.at.part.now

-- what came into the window
abbrev pub came_into : Clauses → List Event → List WindowEvent
came_into clauses h = mapped (tuple_with_arguments clauses) (window_events (key_of_tuple clauses) (port_items 0 h))

-- while the operator hasn't ended by a fault, what is kept of the window stands, and no tuple is in the environment
pub record AggregateStands (clauses : Clauses) (kept : Kept) (env : Env) (h : List Event) : Type 0 where
  pub are : clauses.at.part.now ≡ A.Aggregate clauses.window.now clauses.partition.now clauses.group.now clauses.output.now
  pub width : clauses.width ≡ length (input_attributes (operator_of clauses) 0)
  pub window : goes_on (operator_of clauses) h ≡ true → KeptStands clauses clauses.window.now.rule kept (came_into clauses h)
  pub no_tuple : goes_on (operator_of clauses) h ≡ true → env ≡ idle
