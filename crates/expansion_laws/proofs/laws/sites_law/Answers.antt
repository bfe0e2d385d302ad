use Rattle.expansion_laws.proofs.Ways.{site_law, name_law, text_law}
use Rattle.expansion_laws.proofs.Words.{dotted_law}
use Rattle.expansion_laws.proofs.laws.sites_law.Goals as goal

pub returns : goal.returns
returns c = record { sites = site_law; names = name_law; in_text = text_law; dotted = dotted_law }
