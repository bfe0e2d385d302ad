use Rattle.region_laws.proofs.RegionFronts.{more_law, region_front_law, region_whole_law}
use Rattle.region_laws.proofs.Splits.{split_law}
use Rattle.region_laws.proofs.WholeMerges.{one_whole_law}
use Rattle.region_laws.proofs.laws.region_fronts_law.Goals as goal

pub returns : goal.returns
returns c = record { split = split_law; front = region_front_law; whole = region_whole_law; ones = one_whole_law; more = more_law }
