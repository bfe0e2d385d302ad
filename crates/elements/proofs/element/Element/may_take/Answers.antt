use Rattle.std.proofs.Common.{◌∙◌, sym}
use Rattle.elements.proofs.Asking.{may_come}
use Rattle.elements.proofs.element.Element.may_take.Goals as goal

pub returns-else-not-wants : goal.returns-else-not-wants
returns-else-not-wants g c = record {
  may = λ part a poured at within. may_come g.R.React.spec g.R.React.stands c.args.self.now c.args.input c.args.packet.now c.is_proper.result c.is_proper.ensures part a poured at within
      (c.in-None.ensures part a poured at) (sym (c.wants.ensures.wants part a poured at within) ∙ c.if-not-wants.false);
}
