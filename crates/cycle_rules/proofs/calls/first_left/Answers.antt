use Rattle.cycle_rules.proofs.Leading.{all_acyclic}
use Rattle.cycle_rules.proofs.calls.first_left.Goals as goal

pub returns : goal.returns
returns c = all_acyclic c.args.calls.now c.loop-caller.caller c.loop-caller-test.false c.loop-caller.invariant
