use Rattle.std.proofs.Common.{◌∙◌}
use Rattle.elements.proofs.element.Element.finish.Goals as goal

pub returns : goal.returns
returns g c = record {
  arrivals = λ part a poured spent. (c.finish.ensures part a.kept a.pushed poured spent.notes).arrivals;
  ends = λ part a poured spent. (c.finish.ensures part a.kept a.pushed poured spent.notes).ends;
  sent = λ part a poured spent. (c.finish.ensures part a.kept a.pushed poured spent.notes).sent;
  tuples = λ part a poured spent. (c.finish.ensures part a.kept a.pushed poured spent.notes).tuples;
  cut = λ part a poured spent. (c.finish.ensures part a.kept a.pushed poured spent.notes).was_cut ∙ spent.cut;
}
