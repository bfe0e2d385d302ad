use Rattle.language_model.proofs.DefinedTypes.{names_law}
use Rattle.language_laws.proofs.checks.types_law.Goals as goal

pub returns : goal.returns
returns c = record { names = names_law }
