use Rattle.elements.proofs.Asking.{has_input, no_input, wants_cut, wants_none, wants_whole}
use Rattle.elements.proofs.element.Element.wants.Goals as goal

pub work_wants-requires : goal.work_wants-requires
work_wants-requires g c =
    let may = c.requires.may in
    record { within = has_input g.R.React.spec g.R.React.stands c.args.self.now may.0 may.1 may.2 may.3 c.if-self.false c.args.input may.4 }

pub returns-then-self : goal.returns-then-self
returns-then-self g c = record {
  wants = wants_cut g.R.React.spec g.R.React.stands c.args.self.now c.args.input c.in-Some.noted.now c.in-Some.ensures.value c.if-not-noted.true c.if-self.true;
}

pub returns-else-self : goal.returns-else-self
returns-else-self g c = record {
  wants = wants_whole g.R.React.spec g.R.React.stands c.args.self.now c.args.input c.in-Some.noted.now c.work_wants.result c.in-Some.ensures.value c.if-not-noted.true c.if-self.false c.work_wants.ensures;
}

pub returns-else-not-noted : goal.returns-else-not-noted
returns-else-not-noted g c = record {
  wants = λ part a poured at within. wants_none g.R.React.spec g.R.React.stands c.args.self.now c.args.input c.in-Some.noted.now c.in-Some.ensures.value c.if-not-noted.false part a poured at;
}

pub returns-in-None : goal.returns-in-None
returns-in-None g c = record {
  wants = λ part a poured at within. absurd (no_input g.R.React.spec g.R.React.stands c.args.self.now c.args.input c.in-None.ensures.value part a poured at within);
}
