use Rattle.list_engine.proofs.FaultNames.{fault_names_law}
use Rattle.list_engine.proofs.GraphOperators.{is_numbered}
use Rattle.list_engine.proofs.Orders.{is_ordered}
use Rattle.list_engine.proofs.SameRecords.{same_records_law}
use Rattle.list_engine.proofs.Sinks.{sink_law}
use Rattle.list_engine.proofs.laws.engine_law.Goals as goal

pub returns-clause-ordered : goal.returns-clause-ordered
returns-clause-ordered x = λ c g k e. (is_ordered c g k e, is_numbered c g e)

pub returns-clause-sinks : goal.returns-clause-sinks
returns-clause-sinks x = sink_law

pub returns-clause-records : goal.returns-clause-records
returns-clause-records x = same_records_law

pub returns-clause-fault_names : goal.returns-clause-fault_names
returns-clause-fault_names x = fault_names_law
