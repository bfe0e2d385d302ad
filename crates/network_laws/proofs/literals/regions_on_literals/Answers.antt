use Rattle.network_laws.proofs.RegionNets.{region_wired, region_holds, region_legal, region_done, region_clean, region_under}
use Rattle.network_laws.proofs.CheckedPaths.{chain_runs, region_runs, region_schemas}
use Rattle.network_laws.proofs.literals.regions_on_literals.Goals as goal

pub returns-clause-wired : goal.returns-clause-wired
returns-clause-wired c = region_wired

pub returns-clause-regions : goal.returns-clause-regions
returns-clause-regions c = region_holds

pub returns-clause-legal : goal.returns-clause-legal
returns-clause-legal c = region_legal

pub returns-clause-done : goal.returns-clause-done
returns-clause-done c = region_done

pub returns-clause-clean : goal.returns-clause-clean
returns-clause-clean c = region_clean

pub returns-clause-under : goal.returns-clause-under
returns-clause-under c = region_under

pub returns-clause-runs : goal.returns-clause-runs
returns-clause-runs c = region_runs

pub returns-clause-schemas : goal.returns-clause-schemas
returns-clause-schemas c = region_schemas

pub returns-clause-fused : goal.returns-clause-fused
returns-clause-fused c = chain_runs
