use Rattle.elements.proofs.Noting.{all_poured}
use Rattle.elements.proofs.laws.poured_law.Goals as goal

pub returns : goal.returns
returns g c part a poured spent uncut none = all_poured part c.args.element.now a poured spent uncut none
