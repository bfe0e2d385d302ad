use Rattle.enabled_events.proofs.Happening.{no_sender, push_full, push_room, sender_at, sender_pushes, within}
use Rattle.enabled_events.proofs.marking.may_push.Goals as goal

pub has_room-requires : goal.has_room-requires
has_room-requires g c = record { within = within c.requires.at.0 c.args.links.now c.requires.at.1.links_at c.args.link c.requires.at.2 }

pub returns-then-not-has_room : goal.returns-then-not-has_room
returns-then-not-has_room g c m k lt = push_full m c.args.links.now k.links_at c.args.link lt c.has_room.result c.has_room.ensures c.if-not-has_room.true

pub ends-at-requires : goal.ends-at-requires
ends-at-requires g c = record { within = within c.requires.at.0 c.args.links.now c.requires.at.1.links_at c.args.link c.requires.at.2 }

pub pushes-requires : goal.pushes-requires
pushes-requires g c =
    let m = c.requires.at.0 in
    let x = c.ends-at.result in
    record {
      at = (
        m.net.part x.from,
        m.state x.from,
        m.poured x.from,
        sender_at g.R.React.spec g.R.React.stands m c.args.elements.now c.args.links.now c.requires.at.1 c.args.link c.requires.at.2 x c.ends-at.ensures c.in-Some.sender.now c.in-Some.ensures.value,
      );
    }

pub returns-in-Some : goal.returns-in-Some
returns-in-Some g c m k lt =
    let x = c.ends-at.result in
    push_room m c.args.links.now k.links_at c.args.link lt c.has_room.result c.pushes.result c.has_room.ensures c.if-not-has_room.false
    (sender_pushes g.R.React.spec g.R.React.stands m c.args.elements.now c.args.links.now k c.args.link lt x c.ends-at.ensures c.pushes.result
    (c.pushes.ensures (m.net.part x.from) (m.state x.from) (m.poured x.from)
    (sender_at g.R.React.spec g.R.React.stands m c.args.elements.now c.args.links.now k c.args.link lt x c.ends-at.ensures c.in-Some.sender.now c.in-Some.ensures.value)))

pub returns-in-None : goal.returns-in-None
returns-in-None g c m k lt = absurd (no_sender g.R.React.spec g.R.React.stands m c.args.elements.now c.args.links.now k c.args.link lt c.ends-at.result c.ends-at.ensures c.in-None.ensures.value)
