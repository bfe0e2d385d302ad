use Rattle.region_laws.proofs.KeyPlaces.{has_key_law, key_places_law}
use Rattle.region_laws.proofs.Propers.{proper_law}
use Rattle.region_laws.proofs.laws.region_links_law.Goals as goal

pub returns : goal.returns
returns c = record { proper = proper_law; places = key_places_law; key = has_key_law }
