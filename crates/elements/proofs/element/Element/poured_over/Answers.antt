use Rattle.std.proofs.Common.{subst}
use Rattle.element_works.specs.Tuples.{HasTaken, sink_waits}
use Rattle.elements.proofs.Taking.{pour_none, pour_one}
use Rattle.elements.proofs.element.Element.poured_over.Goals as goal

pub returns-then-next_over-clause-pours : goal.returns-then-next_over-clause-pours
returns-then-next_over-clause-pours g c part a poured at q =
    pour_one g.R.React.spec g.R.React.stands c.args.self.now c.next_over.new.self c.pour.new.self c.next_over.new.tuple
    (subst (λ b. HasTaken b c.next_over.new.tuple (sink_waits c.args.self.now.tuples) (sink_waits c.next_over.new.self)) c.if-next_over.true c.next_over.ensures.next)
    c.next_over.ensures.kept c.next_over.ensures.room part a poured at (c.pour.ensures part a.kept a.pushed poured c.next_over.new.tuple at.spent.notes)

pub returns-else-next_over-clause-ends : goal.returns-else-next_over-clause-ends
returns-else-next_over-clause-ends g c part a poured at q =
    let none = subst (λ b. HasTaken b c.next_over.new.tuple (sink_waits c.args.self.now.tuples) (sink_waits c.next_over.new.self)) c.if-next_over.false c.next_over.ensures.next in
    pour_none g.R.React.spec g.R.React.stands c.args.self.now c.next_over.new.self none.0 none.1 c.next_over.ensures.kept c.next_over.ensures.room part a poured at
