use Rattle.enabled_events.proofs.Nexts.{pops_behind, pops_idle}
use Rattle.enabled_events.proofs.asking.pops.Goals as goal

pub returns-in-Some : goal.returns-in-Some
returns-in-Some g c part a poured at within = let f = c.in-Some.ensures part a poured at in pops_behind part a c.args.input f.0 f.1 f.2

pub returns-in-None : goal.returns-in-None
returns-in-None g c part a poured at within =
    pops_idle part a c.args.input c.wants.result (c.in-None.ensures part a poured at) (c.wants.ensures.wants part a poured at within)
