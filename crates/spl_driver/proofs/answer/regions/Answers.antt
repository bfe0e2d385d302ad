use Rattle.spl_driver.proofs.Carrying.{plan_told}
use Rattle.spl_driver.proofs.answer.regions.Goals as goal

pub returns : goal.returns
returns c = plan_told c.args.checked.now c.in_ok-plan.plan c.plan_text.result c.in_ok-plan.ensures.plan c.plan_text.ensures
