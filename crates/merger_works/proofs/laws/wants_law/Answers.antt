use Rattle.merger_works.proofs.EachKind as laws
use Rattle.merger_works.proofs.laws.wants_law.Goals as goal

pub returns-clause-wants : goal.returns-clause-wants
returns-clause-wants c = laws.wants_law

pub returns-clause-width : goal.returns-clause-width
returns-clause-width c = laws.width_law
