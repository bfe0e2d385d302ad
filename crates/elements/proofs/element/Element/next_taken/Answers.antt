use Rattle.std.proofs.Common.{sym, ◌∙◌}
use Rattle.elements.proofs.Asking.{is_done, not_done, reads_no_more, reads_still}
use Rattle.elements.proofs.element.Element.next_taken.Goals as goal

pub returns-then-still_reads : goal.returns-then-still_reads
returns-then-still_reads g c = record {
  next = λ part a poured at none. (none, reads_still g.R.React.spec g.R.React.stands c.args.self.now part a poured at (sym c.still_reads.ensures ∙ c.if-still_reads.true));
}

pub returns-then-all_ended : goal.returns-then-all_ended
returns-then-all_ended g c = record {
  next = λ part a poured at none. is_done g.R.React.spec g.R.React.stands c.args.self.now part a poured at (sym c.still_reads.ensures ∙ c.if-still_reads.false) (sym c.all_ended.ensures ∙ c.if-all_ended.true) none;
}

pub returns-else-all_ended : goal.returns-else-all_ended
returns-else-all_ended g c = record {
  next = λ part a poured at none. (
    none,
    reads_no_more g.R.React.spec g.R.React.stands c.args.self.now part a poured at (sym c.still_reads.ensures ∙ c.if-still_reads.false),
    not_done g.R.React.spec g.R.React.stands c.args.self.now part a poured at (sym c.all_ended.ensures ∙ c.if-all_ended.false),
  );
}
