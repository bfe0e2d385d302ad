use Rattle.std.proofs.Common.{refl}
use Rattle.stream_model.specs.Sending.{outgoing}
use Rattle.elements.proofs.Putting.{unput_one}
use Rattle.elements.proofs.element.Element.unput.Goals as goal

pub returns-then-not-self : goal.returns-then-not-self
returns-then-not-self g c = record {
  unputs = unput_one g.R.React.spec g.R.React.stands c.args.self.now c.give_back.new.self c.set_ended.new.outputs c.unput.new.self (outgoing c.args.output c.args.packet)
      (λ part kept pushed poured has was. c.unput.ensures part kept pushed poured c.args.packet has was) c.set_ended.ensures (λ q free. c.give_back.ensures);
  schemas = refl;
}

pub returns-else-not-self : goal.returns-else-not-self
returns-else-not-self g c = record {
  unputs = unput_one g.R.React.spec g.R.React.stands c.args.self.now c.args.self.now.outbox c.set_ended.new.outputs c.unput.new.self (outgoing c.args.output c.args.packet)
      (λ part kept pushed poured has was. c.unput.ensures part kept pushed poured c.args.packet has was) c.set_ended.ensures (λ q free. let cut = c.if-not-self.false in cc);
  schemas = refl;
}
