use Rattle.enabled_events.proofs.Righting.{no_front, one_front, righted_none}
use Rattle.enabled_events.proofs.refreshing.mark_front.Goals as goal

pub front_of-requires : goal.front_of-requires
front_of-requires g c = record { at = (c.requires.at.0, c.requires.at.1.elements_at, c.requires.at.3) }

pub returns-in-None : goal.returns-in-None
returns-in-None g c = record {
  righted = λ m k count lt. righted_none m.net m.state c.args.marks.now;
  right = λ m k count lt l within from front. absurd (no_front m.state c.args.element (m.net.link l).output (c.in-None.ensures m k.elements_at lt) front);
}

pub returns-in-Some : goal.returns-in-Some
returns-in-Some g c = record {
  righted = λ m k count lt. c.mark_lead.ensures.righted m k count lt;
  right = λ m k count lt l within from front. (
      let f = c.in-Some.ensures m k.elements_at lt in
      c.mark_lead.ensures.right m k count lt l within from (one_front m.state c.args.element (m.net.link l).output c.in-Some.output f.0 f.1 f.2 f.3 front));
}
