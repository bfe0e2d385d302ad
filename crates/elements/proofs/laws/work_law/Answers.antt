use Rattle.elements.proofs.Feeding.{reads_law, takes_law}
use Rattle.elements.proofs.laws.work_law.Goals as goal

pub returns-clause-takes : goal.returns-clause-takes
returns-clause-takes c = takes_law

pub returns-clause-reads : goal.returns-clause-reads
returns-clause-reads c = reads_law
