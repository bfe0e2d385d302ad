use Rattle.network_laws.proofs.RegionSends.{holds_law, region_moment_law}
use Rattle.network_laws.proofs.RegionDone.{legal_region_law, done_region_law}
use Rattle.network_laws.proofs.laws.regions_law.Goals as goal

pub returns-clause-holds : goal.returns-clause-holds
returns-clause-holds c = holds_law

pub returns-clause-moment : goal.returns-clause-moment
returns-clause-moment c = region_moment_law

pub returns-clause-legal : goal.returns-clause-legal
returns-clause-legal c = legal_region_law

pub returns-clause-done : goal.returns-clause-done
returns-clause-done c = done_region_law
