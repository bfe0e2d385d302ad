use Rattle.network_laws.proofs.PathNets.{path_wired, path_regions, path_legal, path_done, path_clean, path_under, cut_legal, cut_done, cut_under}
use Rattle.network_laws.proofs.CheckedPaths.{path_runs}
use Rattle.network_laws.proofs.literals.networks_on_literals.Goals as goal

pub returns-clause-wired : goal.returns-clause-wired
returns-clause-wired c = path_wired

pub returns-clause-regions : goal.returns-clause-regions
returns-clause-regions c = path_regions

pub returns-clause-legal : goal.returns-clause-legal
returns-clause-legal c = path_legal

pub returns-clause-done : goal.returns-clause-done
returns-clause-done c = path_done

pub returns-clause-clean : goal.returns-clause-clean
returns-clause-clean c = path_clean

pub returns-clause-under : goal.returns-clause-under
returns-clause-under c = path_under

pub returns-clause-cut_legal : goal.returns-clause-cut_legal
returns-clause-cut_legal c = cut_legal

pub returns-clause-cut_done : goal.returns-clause-cut_done
returns-clause-cut_done c = cut_done

pub returns-clause-cut_under : goal.returns-clause-cut_under
returns-clause-cut_under c = cut_under

pub returns-clause-runs : goal.returns-clause-runs
returns-clause-runs c = path_runs
