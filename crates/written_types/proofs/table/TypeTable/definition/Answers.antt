use Rattle.std.proofs.Common.{ap, sym, ◌∙◌}
use Rattle.std.specs.List.{slice_get}
use Rattle.std.specs.Option.{option_map}
use Rattle.language_model.specs.Scopes.{at_place}
use Rattle.written_types.proofs.Circles.{has_flag, told_is}
use Rattle.written_types.proofs.table.TypeTable.definition.Goals as goal

pub returns-in_err-circular : goal.returns-in_err-circular
returns-in_err-circular c =
    absurd (has_flag c.self.inside.definitions c.args.self.now c.self.view_is c.self.inside.circular.items c.self.invariant c.args.name.now c.in_ok-place.place c.in_ok-place.definition.now
    (ap (option_map (λ p. at_place p.0 p.1.now)) (sym c.in_ok-place.was) ∙ c.named.ensures)
    (sym c.in_err-circular.was ∙ c.flag_at.ensures ∙ ap (λ flags. slice_get flags c.in_ok-place.place) c.as_slice.ensures.value))

pub returns : goal.returns
returns c =
    told_is c.self.inside.definitions c.args.self.now c.self.view_is c.self.inside.circular.items c.self.invariant c.args.name.now c.in_ok-place.place c.in_ok-place.definition.now
    (ap (option_map (λ p. at_place p.0 p.1.now)) (sym c.in_ok-place.was) ∙ c.named.ensures) c.in_ok-circular.circular
    (sym c.in_ok-circular.was ∙ c.flag_at.ensures ∙ ap (λ flags. slice_get flags c.in_ok-place.place) c.as_slice.ensures.value)
