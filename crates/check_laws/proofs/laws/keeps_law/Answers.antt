use Rattle.check_laws.proofs.KeptGraphs.{kept}
use Rattle.check_laws.proofs.laws.keeps_law.Goals as goal

pub returns : goal.returns
returns c = record {
  keeps = kept record {
    fit = c.typing_law.ensures.fits;
    constant = c.dollars_law.ensures.constant;
    no_dollars = c.dollars_law.ensures.none;
    bodies = c.bodies_law.ensures.fits;
    returns = c.bodies_law.ensures.returns;
    operators = c.flat_law.ensures.operators;
    makers = c.flat_law.ensures.makers;
    in_order = c.flat_law.ensures.in_order;
    connected = c.flat_law.ensures.connected;
    parts = c.parts_law.ensures.fit;
  };
}
