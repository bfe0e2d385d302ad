use Rattle.std.proofs.Common.{refl}
use Rattle.elements.proofs.Taking.{pour_none, pour_one}
use Rattle.elements.proofs.element.Element.poured.Goals as goal

pub returns-in-Some : goal.returns-in-Some
returns-in-Some g c = record {
  pours = λ part a poured at. pour_one g.R.React.spec g.R.React.stands c.args.self.now c.next.new.self c.pour.new.self c.in-Some.tuple c.in-Some.ensures.next c.next.ensures.kept c.next.ensures.room part a poured at
      (c.pour.ensures part a.kept a.pushed poured c.in-Some.tuple at.spent.notes);
  schemas = refl;
}

pub returns-in-None : goal.returns-in-None
returns-in-None g c = record {
  pours = pour_none g.R.React.spec g.R.React.stands c.args.self.now c.next.new.self c.in-None.ensures.next.0 c.in-None.ensures.next.1 c.next.ensures.kept c.next.ensures.room;
  schemas = refl;
}
