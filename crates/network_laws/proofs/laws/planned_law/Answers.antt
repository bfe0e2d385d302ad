use Rattle.network_laws.proofs.Planned.{fused_runs, plan_region_law, runs_obey, runs_hold, runs_settled, runs_legal, fused_settled}
use Rattle.network_laws.proofs.laws.planned_law.Goals as goal

pub returns-clause-runs : goal.returns-clause-runs
returns-clause-runs c = fused_runs

pub returns-clause-regions : goal.returns-clause-regions
returns-clause-regions c = plan_region_law

pub returns-clause-obey : goal.returns-clause-obey
returns-clause-obey c = runs_obey

pub returns-clause-hold : goal.returns-clause-hold
returns-clause-hold c = runs_hold

pub returns-clause-settled : goal.returns-clause-settled
returns-clause-settled c = runs_settled

pub returns-clause-legal : goal.returns-clause-legal
returns-clause-legal c = runs_legal

pub returns-clause-fused : goal.returns-clause-fused
returns-clause-fused c = fused_settled
