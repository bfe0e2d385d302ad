use Rattle.enabled_events.proofs.Nexts.{pushes_first, pushes_none}
use Rattle.enabled_events.proofs.asking.pushes.Goals as goal

pub returns-in-Some : goal.returns-in-Some
returns-in-Some g c part a poured at = let f = c.in-Some.ensures part a poured at in pushes_first a.outbox f.0 f.1 c.in-Some.first c.args.output f.2 f.3

pub returns-in-None : goal.returns-in-None
returns-in-None g c part a poured at = pushes_none a.outbox c.args.output (c.in-None.ensures part a poured at)
