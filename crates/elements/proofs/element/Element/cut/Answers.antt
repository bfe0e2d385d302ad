use Rattle.std.proofs.Common.{refl}
use Rattle.elements.proofs.Taking.{cut_one}
use Rattle.elements.proofs.element.Element.cut.Goals as goal

pub returns : goal.returns
returns g c = record {
  cuts = cut_one g.R.React.spec g.R.React.stands c.args.self.now c.clear.new.self c.clear-2.new.self c.clear-2.ensures.none c.clear-2.ensures.kept;
  schemas = refl;
}
