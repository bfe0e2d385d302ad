use Rattle.std.proofs.Common.{◌∙◌, sym, ap}
use Rattle.std.specs.Option.{option_map}
use Rattle.language_model.specs.Composites.{composite_named}
use Rattle.language_model.specs.Scopes.{at_place}
use Rattle.composite_tables.proofs.Portless.{main_only, main_several}
use Rattle.composite_tables.proofs.main_composite.main_of.Goals as goal

pub returns-in-Some-portless_from : goal.returns-in-Some-portless_from
returns-in-Some-portless_from c =
    let unit = c.args.composites.now.unit.now in
    let unnamed = ap (composite_named unit) (sym c.as_slice.ensures) ∙ sym c.named.ensures ∙ ap (option_map (λ p. at_place p.0 p.1.now.composite.now)) c.in_default.is in
    sym (main_several unit unnamed c.in_ok-place.place c.in_ok-place.scope.now.composite.now (sym c.in_ok-place.ensures.first) _ (sym c.in-Some-portless_from.ensures.first))

pub returns-in-None : goal.returns-in-None
returns-in-None c =
    let unit = c.args.composites.now.unit.now in
    let unnamed = ap (composite_named unit) (sym c.as_slice.ensures) ∙ sym c.named.ensures ∙ ap (option_map (λ p. at_place p.0 p.1.now.composite.now)) c.in_default.is in
    c.if_main-in-None.ensures ∙ sym (main_only unit unnamed c.in_ok-place.place c.in_ok-place.scope.now.composite.now (sym c.in_ok-place.ensures.first) (sym c.in-None.ensures.first))
