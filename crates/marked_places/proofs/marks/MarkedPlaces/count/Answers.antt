use Rattle.std.proofs.Common.{◌∙◌, ap, length, sym}
use Rattle.marked_places.specs.Marked.{marked}
use Rattle.marked_places.proofs.Marking.{marked-count}
use Rattle.marked_places.proofs.marks.MarkedPlaces.count.Goals as goal

pub returns : goal.returns
returns c = c.self.invariant.all ∙ sym (marked-count 0 c.self.inside.marks) ∙ ap (λ ms. length (marked ms)) c.self.view_is
