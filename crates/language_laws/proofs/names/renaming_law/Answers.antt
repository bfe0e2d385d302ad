use Rattle.language_laws.proofs.Renaming as proofs
use Rattle.language_laws.proofs.names.renaming_law.Goals as goal

pub returns : goal.returns
returns g c = record { renaming = proofs.renaming_law }
