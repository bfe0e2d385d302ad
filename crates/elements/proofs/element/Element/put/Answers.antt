use Rattle.std.proofs.Common.{refl}
use Rattle.elements.proofs.Putting.{put_one}
use Rattle.elements.proofs.element.Element.put.Goals as goal

pub returns-in-Some : goal.returns-in-Some
returns-in-Some g c = record {
  puts = put_one g.R.React.spec g.R.React.stands c.args.self.now c.take.new.self c.note_put-self.new.outputs c.note_put-self.result c.put-self.result c.put-self.new.self c.in-Some.waiting
      (λ part kept pushed poured has. (c.put-self.ensures.puts part kept pushed poured has, c.put-self.ensures.before part kept pushed poured has))
      c.in-Some.ensures.taken c.in-Some.ensures.free c.note_put-self.ensures.puts c.note_put-self.ensures.before c.if-self.false;
  schemas = refl;
}
