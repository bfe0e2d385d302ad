use Rattle.std.proofs.Common.{ap, cond, sym, ◌∙◌, ◌++◌, ◌∷◌, []}
use Rattle.network_model.specs.Receipts.{Popped}
use Rattle.element_notes.specs.Endings.{arrivals_of}
use Rattle.elements.proofs.Noting.{arrivals-more}
use Rattle.elements.proofs.Taking.{not_cutting, take_cut, take_cutting, take_lacks, take_more}
use Rattle.elements.proofs.element.Element.take.Goals as goal

pub returns-then-self-clause-takes : goal.returns-then-self-clause-takes
returns-then-self-clause-takes g c part a poured at may =
    take_cut g.R.React.spec g.R.React.stands c.args.self.now c.note_taken.new.inputs c.args.input c.args.packet c.note_taken.ensures c.if-self.true part a poured at may

pub returns-in-Cut-clause-takes : goal.returns-in-Cut-clause-takes
returns-in-Cut-clause-takes g c part a poured at may =
    take_cutting g.R.React.spec g.R.React.stands c.args.self.now c.cut.new.self c.note_taken.new.inputs c.args.input c.args.packet c.in-Cut.is c.note_taken.ensures c.if-self.false c.cut.ensures.cuts part a poured at may

pub returns-clause-takes : goal.returns-clause-takes
returns-clause-takes g c part a poured at may =
    take_more g.R.React.spec g.R.React.stands c.args.self.now c.work_takes.new.work c.note_taken.new.inputs c.work_takes.new.outbox c.work_takes.new.tuples c.take.new.self c.args.input c.args.packet
    (not_cutting c.args.packet c.in_default.not-Cut) c.note_taken.ensures c.if-self.false c.in_ok-how.ensures.kept c.in_ok-how.ensures.takes part a poured at may
    (λ uncut. c.take.ensures.takes part a.kept (a.kept ++ Popped c.args.input c.args.packet ∷ []) a.pushed poured (c.reserve.ensures.same part a.kept a.pushed poured at.spent.notes)
    (arrivals-more part a.kept c.args.input c.args.packet ∙ ap (λ b. cond b (arrivals_of part a.kept ++ c.args.input ∷ []) (arrivals_of part a.kept))
    (sym (c.is_recorded-recorded.ensures part a.kept a.pushed poured _ _ at.spent.notes (at.work uncut))))
    (c.in_ok-how.ensures.how part a.kept (at.work uncut) (may.works uncut) (c.how.ensures ∙ c.reserve.ensures.how ∙ at.spent.notes.how)))

pub returns-in_err-reserve-clause-lacks : goal.returns-in_err-reserve-clause-lacks
returns-in_err-reserve-clause-lacks g c =
    take_lacks g.R.React.spec g.R.React.stands c.args.self.now c.args.self.now.work c.note_taken.new.inputs c.args.self.now.outbox c.args.self.now.tuples c.reserve.new.self c.args.input c.args.packet
    c.note_taken.ensures c.reserve.ensures.same _

pub returns-in_err-how-clause-lacks : goal.returns-in_err-how-clause-lacks
returns-in_err-how-clause-lacks g c =
    take_lacks g.R.React.spec g.R.React.stands c.args.self.now c.work_takes.new.work c.note_taken.new.inputs c.work_takes.new.outbox c.work_takes.new.tuples c.reserve.new.self c.args.input c.args.packet
    c.note_taken.ensures c.reserve.ensures.same _
