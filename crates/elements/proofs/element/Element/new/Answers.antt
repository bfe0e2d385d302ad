use Rattle.std.proofs.Common.{◌∙◌, ap, refl, replicate, subst, sym}
use Rattle.element_outboxes.specs.Waiting.{fans_from, outputs_in}
use Rattle.element_notes.specs.Noting.{HasEnds}
use Rattle.elements.specs.Inputs.{new_input}
use Rattle.elements.specs.New.{new_output}
use Rattle.elements.proofs.Beginning.{begins}
use Rattle.elements.proofs.Noting.{has_ends, records_as}
use Rattle.elements.proofs.element.Element.new.Goals as goal

pub returns : goal.returns
returns g c = record {
  begins = λ p new has. begins g.R.React.spec g.R.React.stands _ c.args.part p new refl refl (c.in_ok-new_inputs.ensures ∙ ap (λ n. replicate n new_input) c.len-2.ensures)
      (c.in_ok-new_outputs.ensures ∙ ap (λ n. replicate n new_output) (c.count_outputs-count.ensures ∙ ap outputs_in c.as_slice.ensures)) (c.in_ok-fans_of.ensures ∙ ap (fans_from 0) c.as_slice-3.ensures) c.is_some.ensures refl c.new-2.ensures
      c.in_ok-new.ensures.none c.in_ok-new.ensures.kept (c.in_ok-new.ensures.room ∙ c.places_of.ensures)
      (c.in_ok-notes.ensures.begins p (records_as g.R.React.spec g.R.React.stands p c.args.part _ _ new c.len.ensures c.is_recorded.ensures)
      (subst (HasEnds p c.last_of.result) (sym c.as_slice-2.ensures) (has_ends g.R.React.spec g.R.React.stands p c.args.part c.last_of.result new has c.last_of.ensures)) (c.count_outputs-count.ensures ∙ ap outputs_in c.as_slice.ensures ∙ new.output_count));
  schemas = refl;
}
