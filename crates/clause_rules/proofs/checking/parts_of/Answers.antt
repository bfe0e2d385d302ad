use Rattle.std.proofs.Common.{ap, sym, ◌∙◌}
use Rattle.language_model.specs.parts.Checking.{operators_checked}
use Rattle.language_model.specs.Parameters.{dollar_tables}
use Rattle.language_model.proofs.FoundAnswers.{finds_by}
use Rattle.clause_rules.proofs.checking.parts_of.Goals as goal

pub returns : goal.returns
returns c =
    let g = c.args.graph.now in
    finds_by _ _ c.operators_checked.result
    (ap (λ ts. operators_checked c.args.sites.now.unit.now g ts g.ops) (sym (c.as_mut_slice.ensures.value ∙ c.into_vec-tables.ensures ∙ c.in_ok-tables.ensures ∙ ap (dollar_tables c.args.sites.now.unit.now) c.as_slice.ensures)))
    c.operators_checked.ensures
