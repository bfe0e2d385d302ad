use Rattle.language_laws.proofs.Standing.{place_law}
use Rattle.language_laws.proofs.typing.place_law.Goals as goal

pub returns : goal.returns
returns c = record { places = place_law }
