use Rattle.network_laws.proofs.KeyedNets.{keyed_wired, keyed_obeys, keyed_holds, keyed_legal}
use Rattle.network_laws.proofs.CheckedSums.{sums_run}
use Rattle.network_laws.proofs.literals.keys_on_literals.Goals as goal

pub returns-clause-wired : goal.returns-clause-wired
returns-clause-wired c = keyed_wired

pub returns-clause-obeys : goal.returns-clause-obeys
returns-clause-obeys c = keyed_obeys

pub returns-clause-regions : goal.returns-clause-regions
returns-clause-regions c = keyed_holds

pub returns-clause-legal : goal.returns-clause-legal
returns-clause-legal c = keyed_legal

pub returns-clause-runs : goal.returns-clause-runs
returns-clause-runs c = sums_run
