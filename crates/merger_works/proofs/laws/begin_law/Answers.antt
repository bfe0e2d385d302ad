use Rattle.merger_works.proofs.EachKind as laws
use Rattle.merger_works.proofs.laws.begin_law.Goals as goal

pub returns : goal.returns
returns c = record { begins = laws.begin_law }
