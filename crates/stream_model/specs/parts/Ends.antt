-- Words for parts of the rules of the ends of a run: the fault of an operator.
use Rattle.std.specs.Prelude.{List, Option}
use Rattle.std.specs.Option.{option_and_then}
use Rattle.spl_value.specs.declared.item.Fault.{Fault}
use Rattle.stream_model.specs.Ends.{end_from, fault_of}
use Rattle.stream_model.specs.Operators.{Operator}
use Rattle.stream_model.specs.Stages.{start}
use Rattle.stream_model.specs.Stream.{Event}

-- the fault with which an operator ends for these events
abbrev pub operator_fault : Operator → List Event → Option Fault
operator_fault op events = option_and_then fault_of (end_from (start op) events)
