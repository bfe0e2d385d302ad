use Rattle.dollar_rules.specs.steps.Settling.{given_of}
use Rattle.dollar_rules.proofs.Settles.{all_done}
use Rattle.dollar_rules.proofs.settling.settle_all.Goals as goal

pub returns : goal.returns
returns c = all_done (given_of c.args.head.now) _ c.in_ok-settle_each.ensures.settled c.in_ok-settle_each.ensures.done
