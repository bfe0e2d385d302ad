use Rattle.expansion_laws.proofs.SomeFlat.{found_law}
use Rattle.expansion_laws.proofs.laws.found_law.Goals as goal

pub returns : goal.returns
returns c = record { some = found_law }
