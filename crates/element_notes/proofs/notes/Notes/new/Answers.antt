use Rattle.std.proofs.Common.{◌∙◌, ap, refl, replicate}
use Rattle.element_notes.proofs.Noted.{noted_first}
use Rattle.element_notes.proofs.notes.Notes.new.Goals as goal

pub returns : goal.returns
returns c = record {
  begins = λ part records ends outs. noted_first part _ records c.new.ensures.items refl (c.in_ok-ends_by.ensures part ends)
      (c.in_ok-no_counts.ensures ∙ ap (λ n. replicate n 0) outs) refl;
}
