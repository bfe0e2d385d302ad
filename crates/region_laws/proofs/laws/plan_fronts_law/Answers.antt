use Rattle.region_laws.proofs.PlanFronts.{plan_front_law, plan_whole_law}
use Rattle.region_laws.proofs.laws.plan_fronts_law.Goals as goal

pub returns : goal.returns
returns c = record { front = plan_front_law; whole = plan_whole_law }
