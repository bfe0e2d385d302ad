use Rattle.std.specs.Prelude.{◌≡◌, Some, slice_get}
use Rattle.std.specs.Option.{option_map}
use Rattle.std.proofs.Common.{ap, sym, ◌∙◌}
use Rattle.language_model.specs.ParameterTyping.{value_given}
use Rattle.parameter_rules.proofs.Taking.{keeps_others}
use Rattle.parameter_rules.proofs.parameters.given.take_value.Goals as goal

pub returns-clause-others : goal.returns-clause-others
returns-clause-others c other e =
    let given = c.args.given.now in
    let name = c.args.name.now in
    let at = c.in_ok-at.at in
    let named : option_map (λ g. g.name) (slice_get given at) ≡ Some name =
    ap (λ gs. option_map (λ g. g.name) (slice_get gs at)) (sym c.as_slice.ensures) ∙ c.in_ok-at.ensures.1 in
    ap (λ gs. value_given gs other) c.remove.ensures.rest ∙ keeps_others given name at c.remove.result c.remove.ensures.item named other e
