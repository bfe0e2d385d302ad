use Rattle.std.proofs.Common.{◌∙◌, ap, length, map, refl}
use Rattle.std.proofs.lemmas.List.{length-map}
use Rattle.element_notes.specs.Noting.{with_how}
use Rattle.element_notes.proofs.Noted.{ends_so, written}
use Rattle.element_notes.proofs.notes.Notes.finish.Goals as goal

pub returns : goal.returns
returns c part kept pushed poured has =
    ends_so part c.args.self kept pushed poured c.args.cut _ has c.from_vec.ensures
    (c.from_vec-2.ensures
    ∙ written c.set_hows.new.ends _ _ (ap length c.set_hows.ensures ∙ length-map _ (with_how c.args.self.how) ∙ c.as_mut_slice.ensures.len)
    ∙ c.set_hows.ensures ∙ ap (map (with_how c.args.self.how)) (c.as_mut_slice.ensures.value ∙ c.into_vec-ends.ensures))
    refl refl refl
