use Rattle.std.proofs.Common.{arith}
use Rattle.enabled_events.proofs.Righting.{leads_none, leads_some, leads_within, righted_none}
use Rattle.enabled_events.proofs.refreshing.mark_lead.Goals as goal

pub leading-requires : goal.leading-requires
leading-requires g c = record { within = omega (arith, c.requires.at.1.links_at.size, c.requires.at.3) }

pub returns-in-None : goal.returns-in-None
returns-in-None g c = record {
  righted = λ m k count lt. righted_none m.net m.state c.args.marks.now;
  right = λ m k count lt. leads_none m c.args.links.now c.args.element c.args.output c.args.marks.now k.links_at c.in-None.ensures;
}

pub mark_push-requires : goal.mark_push-requires
mark_push-requires g c = record {
  at = (
    c.requires.at.0,
    c.requires.at.1,
    leads_within c.requires.at.0 c.args.links.now c.args.element c.args.output c.in-Some.link c.requires.at.1.links_at c.in-Some.ensures,
    c.requires.at.2,
  );
}

pub returns-in-Some : goal.returns-in-Some
returns-in-Some g c = record {
  righted = λ m k count lt. c.mark_push.ensures.righted m k (leads_within m c.args.links.now c.args.element c.args.output c.in-Some.link k.links_at c.in-Some.ensures) count;
  right = λ m k count lt. leads_some m c.args.links.now c.args.element c.args.output c.in-Some.link c.mark_push.new.marks k.linked k.links_at c.in-Some.ensures
      (c.mark_push.ensures.right m k (leads_within m c.args.links.now c.args.element c.args.output c.in-Some.link k.links_at c.in-Some.ensures) count);
}
