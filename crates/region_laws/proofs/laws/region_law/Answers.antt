use Rattle.region_laws.proofs.RegionLaw.{chain_law, region_law as the_law}
use Rattle.region_laws.proofs.laws.region_law.Goals as goal

pub returns : goal.returns
returns c = record { chain = chain_law; region = the_law }
