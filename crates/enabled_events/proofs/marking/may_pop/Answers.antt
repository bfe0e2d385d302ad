use Rattle.enabled_events.proofs.Happening.{input_within, no_taker, pop_none, pop_some, taker_at, taker_pops, within}
use Rattle.enabled_events.proofs.marking.may_pop.Goals as goal

pub waits-requires : goal.waits-requires
waits-requires g c = record { within = within c.requires.at.0 c.args.links.now c.requires.at.1.links_at c.args.link c.requires.at.2 }

pub returns-then-not-waits : goal.returns-then-not-waits
returns-then-not-waits g c m k lt = pop_none m c.args.links.now k.links_at c.args.link lt c.waits.result c.waits.ensures c.if-not-waits.true

pub ends-at-requires : goal.ends-at-requires
ends-at-requires g c = record { within = within c.requires.at.0 c.args.links.now c.requires.at.1.links_at c.args.link c.requires.at.2 }

pub pops-requires : goal.pops-requires
pops-requires g c =
    let m = c.requires.at.0 in
    let x = c.ends-at.result in
    record {
      at = (
        m.net.part x.to,
        m.state x.to,
        m.poured x.to,
        taker_at g.R.React.spec g.R.React.stands m c.args.elements.now c.args.links.now c.requires.at.1 c.args.link c.requires.at.2 x c.ends-at.ensures c.in-Some.taker.now c.in-Some.ensures.value,
        input_within g.R.React.spec g.R.React.stands m c.args.elements.now c.args.links.now c.requires.at.1 c.args.link c.requires.at.2 x c.ends-at.ensures,
      );
    }

pub returns-in-Some : goal.returns-in-Some
returns-in-Some g c m k lt =
    let x = c.ends-at.result in
    pop_some m c.args.links.now k.links_at c.args.link lt c.waits.result c.pops.result c.waits.ensures c.if-not-waits.false
    (taker_pops g.R.React.spec g.R.React.stands m c.args.elements.now c.args.links.now k c.args.link lt x c.ends-at.ensures c.pops.result
    (c.pops.ensures (m.net.part x.to) (m.state x.to) (m.poured x.to)
    (taker_at g.R.React.spec g.R.React.stands m c.args.elements.now c.args.links.now k c.args.link lt x c.ends-at.ensures c.in-Some.taker.now c.in-Some.ensures.value)
    (input_within g.R.React.spec g.R.React.stands m c.args.elements.now c.args.links.now k c.args.link lt x c.ends-at.ensures)))

pub returns-in-None : goal.returns-in-None
returns-in-None g c m k lt = absurd (no_taker g.R.React.spec g.R.React.stands m c.args.elements.now c.args.links.now k c.args.link lt c.ends-at.result c.ends-at.ensures c.in-None.ensures.value)
