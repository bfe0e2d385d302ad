use Rattle.std.proofs.Common.{ap, ◌∙◌}
use Rattle.language_model.specs.Parameters.{dollar_tables}
use Rattle.dollar_rules.proofs.TablesGrown.{same_if_ok}
use Rattle.dollar_rules.proofs.tables.dollar_tables.Goals as goal

pub returns : goal.returns
returns c = same_if_ok _ _ _ c.tables.ensures (c.in_ok-scopes.ensures ∙ ap (λ unit. dollar_tables unit c.args.expansions.now) c.in_ok-sites.ensures.unit)
