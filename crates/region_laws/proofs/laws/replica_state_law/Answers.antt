use Rattle.region_laws.proofs.PlanFronts.{plan_state_law}
use Rattle.region_laws.proofs.ReplicaState.{key_law, state_law}
use Rattle.region_laws.proofs.ReplicaWindows.{window_law}
use Rattle.region_laws.proofs.laws.replica_state_law.Goals as goal

pub returns : goal.returns
returns c = record { tuples = state_law; keys = key_law; windows = window_law; plans = plan_state_law }
