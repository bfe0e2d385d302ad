use Rattle.list_engine.proofs.Chained.{chain_keeps}
use Rattle.element_laws.proofs.WorkedParts.{filters_plan, merger_made, replica_made, row_kept, row_put, row_taken, splitter_fits, splitter_made}
use Rattle.element_laws.proofs.literals.parts_on_literals.Goals as goal

pub returns-clause-program : goal.returns-clause-program
returns-clause-program c = (chain_keeps, filters_plan)

pub returns-clause-splitter : goal.returns-clause-splitter
returns-clause-splitter c = splitter_made

pub returns-clause-replica : goal.returns-clause-replica
returns-clause-replica c = replica_made

pub returns-clause-merger : goal.returns-clause-merger
returns-clause-merger c = merger_made

pub returns-clause-fits : goal.returns-clause-fits
returns-clause-fits c = splitter_fits

pub returns-clause-keeps : goal.returns-clause-keeps
returns-clause-keeps c = row_kept

pub returns-clause-takes : goal.returns-clause-takes
returns-clause-takes c = row_taken

pub returns-clause-puts : goal.returns-clause-puts
returns-clause-puts c = row_put
