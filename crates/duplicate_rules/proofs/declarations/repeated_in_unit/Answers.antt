use Rattle.std.proofs.Common.{ap, sym, ◌∙◌}
use Rattle.std.specs.Prelude.{flat_map}
use Rattle.std.specs.Option.{option_copied, option_to_list}
use Rattle.std.proofs.lemmas.Result.{IfOk-weaker}
use Rattle.language_model.specs.Declarations.{definition_sets, first_in_text, repeated_in_definition, repeated_names}
use Rattle.language_model.specs.parts.Declarations.{repeated_definitions}
use Rattle.duplicate_rules.proofs.Best.{earliest_is_first}
use Rattle.duplicate_rules.proofs.Firsts.{first_of_option, third_of_three}
use Rattle.duplicate_rules.proofs.declarations.repeated_in_unit.Goals as goal

pub returns : goal.returns
returns c =
    let unit = c.args.unit.now in
    let names = flat_map repeated_names (flat_map definition_sets unit) in
    IfOk-weaker c.earliest_within.result _ _
    (λ found e.
    e ∙ earliest_is_first names
    ∙ sym
    (third_of_three (repeated_definitions unit) (flat_map repeated_in_definition unit) (option_to_list (first_in_text names))
    (sym c.in_ok-name.ensures ∙ ap option_copied c.in_default.is)
    (sym c.in_ok-name-2.ensures ∙ ap option_copied c.in_default-2.is)
    ∙ first_of_option (first_in_text names)))
    c.earliest_within.ensures
