use Rattle.evaluation_laws.proofs.PlainCodes.{literal_law}
use Rattle.evaluation_laws.proofs.literals.literals_law.Goals as goal

pub returns : goal.returns
returns c = record { literals = literal_law }
