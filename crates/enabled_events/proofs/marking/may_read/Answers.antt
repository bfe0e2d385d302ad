use Rattle.std.proofs.Common.{sym}
use Rattle.enabled_events.proofs.Happening.{no_element, read_happens}
use Rattle.enabled_events.proofs.marking.may_read.Goals as goal

pub reads-requires : goal.reads-requires
reads-requires g c =
    let m = c.requires.at.0 in
    record {
      at = (
        m.net.part c.args.element,
        m.state c.args.element,
        m.poured c.args.element,
        (c.requires.at.1.each c.args.element c.in-Some.reader.now (sym c.in-Some.ensures.value)).at,
      );
    }

pub returns-in-Some : goal.returns-in-Some
returns-in-Some g c m k lt =
    read_happens m c.args.element c.reads.result lt
    (c.reads.ensures (m.net.part c.args.element) (m.state c.args.element) (m.poured c.args.element)
    (k.each c.args.element c.in-Some.reader.now (sym c.in-Some.ensures.value)).at)

pub returns-in-None : goal.returns-in-None
returns-in-None g c m k lt = absurd (no_element g.R.React.spec g.R.React.stands m c.args.elements.now c.args.element k lt c.in-None.ensures.value)
