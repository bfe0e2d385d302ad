use Rattle.std.proofs.Common.{◌≡◌, ◌++◌, drop, map}
use Rattle.dollar_rules.specs.steps.Heads.{rows_of}
use Rattle.language_model.specs.parts.Parameters.{default_leads}
use Rattle.dollar_rules.proofs.heads.leads.Given as goal

abbrev pub invariant-loop-parameter : goal.invariant-loop-parameter
invariant-loop-parameter l =
    rows_of l.parameters l.arguments ≡ l.rows.items ++ map (default_leads l.parameters l.arguments) (drop l.parameter-index l.parameters)
