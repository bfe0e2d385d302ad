use Rattle.std.proofs.Common.{sym, refl}
use Rattle.elements.proofs.Putting.{put_cut_one, none_cut}
use Rattle.elements.proofs.element.Element.put_cut.Goals as goal

pub returns-in-Some : goal.returns-in-Some
returns-in-Some g c = record {
  puts = put_cut_one g.R.React.spec g.R.React.stands c.args.self.now c.note_put-self.new.outputs c.note_put-self.result c.put-self.result c.put-self.new.self c.in-Some.output
      (λ part kept pushed poured has. (c.put-self.ensures.puts part kept pushed poured has, c.put-self.ensures.before part kept pushed poured has))
      c.requires.cut (sym c.in-Some.ensures) c.note_put-self.ensures.puts c.note_put-self.ensures.before;
  schemas = refl;
}

pub returns-in-None : goal.returns-in-None
returns-in-None g c = record {
  puts = λ part a poured at. (none_cut g.R.React.spec g.R.React.stands c.args.self.now c.requires.cut (sym c.in-None.ensures) part a poured at, at);
  schemas = refl;
}
