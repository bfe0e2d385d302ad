use Rattle.language_laws.proofs.Naming.{written_law, names_law}
use Rattle.language_laws.proofs.names.names_law.Goals as goal

pub returns : goal.returns
returns c = record { written = written_law; names = names_law }
