use Rattle.std.proofs.Common.{ap, sym, ◌∙◌}
use Rattle.language_model.specs.ParameterTyping.{one_value, single_value}
use Rattle.literal_sites.specs.Sites.{site_seen}
use Rattle.parameter_rules.proofs.Giving.{other_value}
use Rattle.parameter_rules.proofs.parameters.values.value_of.Goals as goal
use Rattle.language_model.proofs.FoundAnswers.{finds_by}

pub returns-in_default : goal.returns-in_default
returns-in_default c =
    let p = c.args.parameter.now in
    finds_by _ _ _
    (other_value (site_seen c.args.site.now) p c.args.role c.in_default.not-Attributes
    ∙ ap (one_value p.name.at (single_value (site_seen c.args.site.now) c.args.role)) (sym c.as_slice-values.ensures))
    c.one_value.ensures
