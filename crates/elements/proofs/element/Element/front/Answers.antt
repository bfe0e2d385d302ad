use Rattle.elements.proofs.Putting.{front_cut}
use Rattle.elements.proofs.element.Element.front.Goals as goal

pub returns-then-self : goal.returns-then-self
returns-then-self g c part a poured at = front_cut g.R.React.spec g.R.React.stands c.args.self.now c.first_open.result c.if-self.true c.first_open.ensures part a poured at
