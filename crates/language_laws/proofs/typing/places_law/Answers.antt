use Rattle.language_laws.proofs.PlaceTyping.{place_type_law}
use Rattle.language_laws.proofs.StatementTypes.{assignment_type_law, compound_type_law, call_type_law}
use Rattle.language_laws.proofs.typing.places_law.Goals as goal

pub returns : goal.returns
returns c = record { places = place_type_law; assignments = assignment_type_law; compounds = compound_type_law; calls = call_type_law }
