use Rattle.language_laws.proofs.Again.{unwanted_law}
use Rattle.language_laws.proofs.typing.unwanted_law.Goals as goal

pub returns : goal.returns
returns c = record { unwanted = unwanted_law }
