use Rattle.stream_model.proofs.PathLaws.{filter_out, sink_out, sink_fault}
use Rattle.stream_model.proofs.laws.path_law.Goals as goal

pub returns-clause-filters : goal.returns-clause-filters
returns-clause-filters c = filter_out

pub returns-clause-sinks : goal.returns-clause-sinks
returns-clause-sinks c = sink_out

pub returns-clause-faults : goal.returns-clause-faults
returns-clause-faults c = sink_fault
