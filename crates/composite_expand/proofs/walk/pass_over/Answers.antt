use Rattle.composite_expand.proofs.Steps.{passes, same_walk}
use Rattle.composite_expand.proofs.walk.pass_over.Goals as goal

pub returns : goal.returns
returns c = λ unit main comp i d is known target fits idle.
    passes unit main c.args.walk.now c.args.top comp i is _ c.in_ok-on.on d known target fits idle c.in_ok-on.ensures c.in_ok-push.ensures.ok (same_walk c.args.walk.now c.push.new.self)
