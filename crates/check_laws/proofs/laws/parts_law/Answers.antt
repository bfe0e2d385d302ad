use Rattle.check_laws.proofs.PartsFit.{parts_law}
use Rattle.check_laws.proofs.laws.parts_law.Goals as goal

pub returns : goal.returns
returns c = record {
  fit = parts_law (record {
    fit = c.typing_law.ensures.fits;
    wanted = c.typing_law.ensures.wanted;
    constant = c.dollars_law.ensures.constant;
    body = c.bodies_law.ensures.fits;
  });
}
